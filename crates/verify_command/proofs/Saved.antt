-- What is left of a finding, and what is reported on it.
use Rattle.std.proofs.Common.{◌≡◌, ◌≢◌, ◌∙◌, ℕ, List, [], Option, Some, None, IfSome, IfOk, OnErr, Result, Ok, Err, ◌⊎◌, inl, inr, refl, ap, append-nil}
use Rattle.outside.specs.Contents.{emptied, OthersStay}
use Rattle.outside.specs.States.{Change}
use Rattle.clause_core.specs.Formula.{Formula}
use Rattle.finding_file.specs.Writing.{all_written}
use Rattle.finding_file.specs.declared.errors.WriteErr.{WriteErr}
use Rattle.finding_file.specs.declared.errors.WriteErr.TheVariants.{Fault, M8, Memory as NoMemory}
use Rattle.queries.specs.Comparisons.{Comparison}
use Rattle.queries.specs.Questions.{QueryData}
use Rattle.queries.specs.Settings.{Setting, setting_of}
use Rattle.judgement.specs.Places.{at_top, finished}
use Rattle.judgement.specs.Findings.{nowhere, IsJudged}
use Rattle.judgement.specs.Shown.{IsShown, IsReachShown}
use Rattle.judgement.specs.declared.answers.Concluded.{Concluded}
use Rattle.judgement.specs.declared.answers.Reach.TheVariants.{Untold}
use Rattle.judgement.specs.declared.answers.Judged.TheVariants.{Valid}
use Rattle.finding_search.specs.Passing.{IsPartOfFinding, IsFull}
use Rattle.command_answers.specs.declared.status.Status.{Status}
use Rattle.command_answers.specs.declared.status.Status.TheVariants.{WriteFault}
use Rattle.command_answers.specs.Reports.{Report}
use Rattle.command_answers.specs.Answers.{Answers, AnswersSoFar, Extent, part_put, fault_told, all_put, extent_of, HasPut, a_report}
use Rattle.finding_answers.specs.Lines.{most_bytes, write_fault_report}
use Rattle.verify_command.specs.Reports.{HasFailed, IsSaved, AreShown, ReportsVerdict, decided, too_long, not_written, LeavesPart, untouched, a_part, ReportsSaved}

-- ---- files

pub stay_both : (first before after : List ℕ → Option (List ℕ)) (name : List ℕ) → OthersStay first before name → OthersStay before after name → OthersStay first after name
stay_both first before after name h k = λ other differs. k other differs ∙ h other differs

-- a file that was made is empty, where it is told
pub is_empty : (old new : Option (List ℕ)) → new ≡ emptied old → IfSome new (λ file. file ≡ [])
is_empty None new e = rw e tt
is_empty (Some bytes) new e = rw e refl

-- ---- what is left

empty_part : (s : Setting) (formula : QueryData → Formula) (o : Option (List ℕ)) → IfSome o (λ file. file ≡ []) → IfSome o (IsPartOfFinding s formula)
empty_part s formula None e = tt
empty_part s formula (Some file) e = inl ([], at_top, nowhere, e)

-- what is judged valid has lines that all pass
valid_part : (s : Setting) (formula : QueryData → Formula) (limit : ℕ) (a : Concluded) (o : Option (List ℕ)) → IfSome o (λ file. IsJudged s formula limit file (Ok (Valid a.verdict a.reach))) → IfSome o (IsPartOfFinding s formula)
valid_part s formula limit a None h = tt
valid_part s formula limit a (Some file) (lines, stands) = inl (lines, finished a.reach a.verdict, stands.leads, stands.whole ∙ append-nil (all_written lines))

-- what was concluded is shown, one thing by the other
pub are_shown : (c : Comparison) (formula : QueryData → Formula) (result : Result Concluded WriteErr) → IfOk result (λ a. IsShown c formula a.verdict) → IfOk result (λ a. IsReachShown c formula a.reach)
    → IfOk result (λ a. a.reach ≢ Untold) → IfOk result (AreShown c formula)
are_shown c formula (Ok a) shown reached told = record { shown = shown; reached = reached; told = told }
are_shown c formula (Err e) shown reached told = tt

module _ (c : Comparison) (formula : QueryData → Formula) (k : Change) (name : List ℕ) where
  -- a create that failed left the file as it was or empty
  pub after_create : (k.after.file name ≡ k.before.file name) ⊎ (k.after.file name ≡ emptied (k.before.file name)) → LeavesPart c formula k name
  after_create (inl h) = untouched h
  after_create (inr h) = a_part (empty_part (setting_of c) formula (k.after.file name) (is_empty (k.before.file name) (k.after.file name) h))

  -- what an attempt that failed left is a part of a finding
  pub part_left : (result : Result Concluded WriteErr) → OnErr result (IfSome (k.after.file name) (IsPartOfFinding (setting_of c) formula)) → OnErr result (LeavesPart c formula k name)
  part_left (Ok a) h = tt
  part_left (Err e) h = a_part h

  pub left_of : (saved : Result Concluded WriteErr) → IfOk saved (IsSaved c formula k name) → OnErr saved (LeavesPart c formula k name) → LeavesPart c formula k name
  left_of (Ok a) is left = a_part (valid_part (setting_of c) formula most_bytes a (k.after.file name) is)
  left_of (Err e) is left = left

  -- ---- what is reported

  pub reported : (saved : Result Concluded WriteErr) → IfOk saved (IsSaved c formula k name) → IfOk saved (AreShown c formula)
      → (saved ≡ Err M8 → IsFull (setting_of c) formula (k.after.file name) most_bytes) → (saved ≡ Err Fault → HasFailed k name) → (r : Report) → ReportsSaved c.relation.depth saved r → ReportsVerdict c formula k name r
  reported (Ok a) is shown full failed r e = decided a is shown e
  reported (Err Fault) is shown full failed r e = not_written (failed refl) e
  reported (Err M8) is shown full failed r e = too_long (full refl) e
  reported (Err NoMemory) is shown full failed r e = absurd e

-- ---- the line on a write that failed

gave_up : (text : List ℕ) (result : Status) (old new : Option (List ℕ)) → HasPut text WriteFault result old new → extent_of result ≢ part_put → ⊥
gave_up text result old new h e = e (ap extent_of (h.whole (λ f. e (ap extent_of f)) (λ f. e (ap extent_of f))).0)

fault_so_far : (Wanted : Report → Type 0) (faulted : Type 0) (x : Extent) (result : Status) (old new : Option (List ℕ))
    → x ≡ extent_of result → Wanted write_fault_report → HasPut write_fault_report.text WriteFault result old new → AnswersSoFar x Wanted faulted result old new
fault_so_far Wanted faulted part_put result old new x w h = (write_fault_report.text, a_report write_fault_report w refl, h.part)
fault_so_far Wanted faulted fault_told result old new x w h = absurd (gave_up write_fault_report.text result old new h (λ f. let g : fault_told ≡ part_put = x ∙ f in cc))
fault_so_far Wanted faulted all_put result old new x w h = absurd (gave_up write_fault_report.text result old new h (λ f. let g : all_put ≡ part_put = x ∙ f in cc))

pub write_fault_answered : (Wanted : Report → Type 0) (faulted : Type 0) (result : Status) (old new : Option (List ℕ))
    → Wanted write_fault_report → HasPut write_fault_report.text WriteFault result old new → Answers Wanted faulted result old new
write_fault_answered Wanted faulted result old new w h = fault_so_far Wanted faulted (extent_of result) result old new refl w h
