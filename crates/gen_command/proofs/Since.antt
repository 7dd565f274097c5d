-- From before the texts were saved on.
use Rattle.std.proofs.Common.{◌≡◌, ◌≢◌, ◌⊎◌, inl, inr, ◌∙◌, ℕ, List, Option, IfSome, refl, sym, ap, subst}
use Rattle.outside.specs.Causes.{Rose, NoneFell}
use Rattle.outside.specs.Contents.{OthersStay}
use Rattle.outside.specs.States.{ShelfState, Change, change}
use Rattle.clause_core.specs.Formula.{Formula}
use Rattle.queries.specs.Comparisons.{Comparison}
use Rattle.queries.specs.Questions.{QueryData}
use Rattle.command_answers.specs.Reports.{Report}
use Rattle.verify_command.proofs.comparison_files.RefusalLemmas.{rose_since}
use Rattle.generated_texts.specs.Names.{old_name, new_name, relation_name, finding_name}
use Rattle.generated_texts.specs.Files.{HoldsText, LeavesText, HoldTexts, LeaveTexts, OtherFilesStay, as_before, a_front}
use Rattle.generated_texts.proofs.NameLemmas.{old_is_not_finding, new_is_not_finding, relation_is_not_finding}
use Rattle.verify_command.specs.Reports.{HasFailed, ReportsVerdict, decided, too_long, not_written, LeavesPart, untouched, a_part, as_before as finding_as_before}
use Rattle.gen_command.specs.Reports.{ReportsBehind, verified, no_memory, KeepsOthers, OneFailed, LeavesFiles}

module _ (count : ℕ) (first before after : ShelfState) where
  abbrev name : List ℕ
  name = finding_name count

  abbrev late : Change
  late = change before after

  abbrev whole : Change
  whole = change first after

  -- ---- counts

  pub failed_since : NoneFell first.write_faults before.write_faults → HasFailed late name → HasFailed whole name
  failed_since later h = rose_since (first.write_faults name) (before.write_faults name) (after.write_faults name) (later name) h

  pub fault_since : (old new : ℕ) → NoneFell first.write_faults before.write_faults → HasFailed late name ⊎ Rose old new → OneFailed count whole ⊎ Rose old new
  fault_since old new later (inl h) = inl (inr (failed_since later h))
  fault_since old new later (inr h) = inr h

  -- ---- reports

  verdict_since : (c : Comparison) (formula : QueryData → Formula) (r : Report) → NoneFell first.write_faults before.write_faults → ReportsVerdict c formula late name r → ReportsVerdict c formula whole name r
  verdict_since c formula r later (decided a is shown e) = decided a is shown e
  verdict_since c formula r later (too_long full e) = too_long full e
  verdict_since c formula r later (not_written failed e) = not_written (failed_since later failed) e

  pub behind_since : (c : Comparison) (formula : QueryData → Formula) (r : Report) → NoneFell first.write_faults before.write_faults → ReportsBehind count c formula late name r → ReportsBehind count c formula whole name r
  behind_since c formula r later (verified last h e) = verified last (verdict_since c formula last later h) e
  behind_since c formula r later (no_memory e) = no_memory e

  -- ---- files

  -- the finding is as before when the texts are saved
  pub finding_stays : OtherFilesStay count first.file before.file → before.file name ≡ first.file name
  finding_stays others = others name (λ e. old_is_not_finding count (sym e)) (λ e. new_is_not_finding count (sym e)) (λ e. relation_is_not_finding count (sym e))

  pub part_since : (c : Comparison) (formula : QueryData → Formula) → OtherFilesStay count first.file before.file → LeavesPart c formula late name → LeavesPart c formula whole name
  part_since c formula others (untouched e) = untouched (e ∙ finding_stays others)
  part_since c formula others (a_part h) = a_part h

  held_still : (a b : Option (List ℕ)) (text : List ℕ) → b ≡ a → HoldsText a text → HoldsText b text
  held_still a b text e h = subst (λ o. HoldsText o text) (sym e) h

  left_still : (o a b : Option (List ℕ)) (text : List ℕ) → b ≡ a → LeavesText o a text → LeavesText o b text
  left_still o a b text e h = subst (λ x. LeavesText o x text) (sym e) h

  -- the texts stay when the finding is saved
  pub hold_still : OthersStay before.file after.file name → HoldTexts count before.file → HoldTexts count after.file
  hold_still stay h = record {
    old = held_still (before.file (old_name count)) (after.file (old_name count)) _ (stay (old_name count) (old_is_not_finding count)) h.old;
    new = held_still (before.file (new_name count)) (after.file (new_name count)) _ (stay (new_name count) (new_is_not_finding count)) h.new;
    relation = held_still (before.file (relation_name count)) (after.file (relation_name count)) _ (stay (relation_name count) (relation_is_not_finding count)) h.relation;
  }

  pub leave_still : OthersStay before.file after.file name → LeaveTexts count first.file before.file → LeaveTexts count first.file after.file
  leave_still stay h = record {
    old = left_still (first.file (old_name count)) (before.file (old_name count)) (after.file (old_name count)) _ (stay (old_name count) (old_is_not_finding count)) h.old;
    new = left_still (first.file (new_name count)) (before.file (new_name count)) (after.file (new_name count)) _ (stay (new_name count) (new_is_not_finding count)) h.new;
    relation = left_still (first.file (relation_name count)) (before.file (relation_name count)) (after.file (relation_name count)) _ (stay (relation_name count) (relation_is_not_finding count)) h.relation;
  }

  -- the other files stay throughout
  pub keep_others : OtherFilesStay count first.file before.file → OthersStay before.file after.file name → KeepsOthers count first.file after.file
  keep_others others stay = λ other a b d e. stay other e ∙ others other a b d

-- where the finding was not begun
pub others_kept : (count : ℕ) (first before : List ℕ → Option (List ℕ)) → OtherFilesStay count first before → KeepsOthers count first before
others_kept count first before others = λ other a b d e. others other a b d

-- where no file was begun
pub files_kept : (count : ℕ) (k : Change) → k.after.file ≡ k.before.file → LeavesFiles count k
files_kept count k e = record {
  texts = record { old = as_before (ap (λ f. f (old_name count)) e); new = as_before (ap (λ f. f (new_name count)) e); relation = as_before (ap (λ f. f (relation_name count)) e) };
  finding = finding_as_before (ap (λ f. f (finding_name count)) e);
}
