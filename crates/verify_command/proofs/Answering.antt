-- From what is reported on a comparison to the answer.
use Rattle.std.proofs.Common.{◌≡◌, ℕ, List, Option, ap, ◌∙◌, subst}
use Rattle.outside.specs.Causes.{NoneFell}
use Rattle.outside.specs.Contents.{extended}
use Rattle.outside.specs.States.{ShelfState, Change, change}
use Rattle.clause_core.specs.Formula.{Formula}
use Rattle.queries.specs.Comparisons.{Comparison}
use Rattle.queries.specs.Questions.{QueryData}
use Rattle.command_answers.specs.declared.status.Status.{Status}
use Rattle.command_answers.specs.Reports.{Report}
use Rattle.command_answers.specs.Answers.{Answers, AnswersSoFar, all_put}
use Rattle.finding_answers.specs.Verdicts.{IsOfVerdict}
use Rattle.finding_answers.proofs.VerdictLemmas.{whole_of}
use Rattle.comparison_files.specs.Texts.{Texts}
use Rattle.comparison_files.proofs.RefusalLemmas.{rose_since, refusal_status}
use Rattle.verify_command.specs.Reports.{HasFailed, ReportsVerdict, decided, too_long, not_written, VerifyReports, not_compared, on_pair, LeavesPart, untouched, a_part, IsLeft, as_before, accepted, ShowsSaved}

-- ---- from before the texts were read on: no file has changed, and no count has fallen

module _ (first before after : ShelfState) (name : List ℕ) (kept : before.file ≡ first.file) (later : NoneFell first.write_faults before.write_faults) where
  abbrev late : Change
  late = change before after

  abbrev whole : Change
  whole = change first after

  pub failed_since : HasFailed late name → HasFailed whole name
  failed_since h = rose_since (first.write_faults name) (before.write_faults name) (after.write_faults name) (later name) h

  verdict_since : (c : Comparison) (formula : QueryData → Formula) (r : Report) → ReportsVerdict c formula late name r → ReportsVerdict c formula whole name r
  verdict_since c formula r (decided a is shown e) = decided a is shown e
  verdict_since c formula r (too_long full e) = too_long full e
  verdict_since c formula r (not_written failed e) = not_written (failed_since failed) e

  pub reports_since : (t : Texts) (r : Report) → VerifyReports t late name r → VerifyReports t whole name r
  reports_since t r (not_compared h same) = not_compared h (same ∙ kept)
  reports_since t r (on_pair c h e) = on_pair c h (verdict_since c _ r e)

  part_since : (c : Comparison) (formula : QueryData → Formula) → LeavesPart c formula late name → LeavesPart c formula whole name
  part_since c formula (untouched e) = untouched (e ∙ ap (λ f. f name) kept)
  part_since c formula (a_part h) = a_part h

  pub left_since : (t : Texts) → IsLeft t late name → IsLeft t whole name
  left_since t (as_before e) = as_before (e ∙ ap (λ f. f name) kept)
  left_since t (accepted c h l) = accepted c h (part_since c _ l)

-- ---- where the status is that of a verdict

-- what was put is a verdict, which is shown
verdict_shown : (t : Texts) (k : Change) (name : List ℕ) (status : Status) (r : Report) (old new : Option (List ℕ)) → IsOfVerdict status → VerifyReports t k name r → status ≡ r.status → new ≡ extended old r.text → ShowsSaved t k name status old new
verdict_shown t k name status r old new v (not_compared h same) is put = absurd (subst IsOfVerdict (is ∙ refusal_status t r h) v)
verdict_shown t k name status r old new v (on_pair c h (decided a saved shown e)) is put = record {
  compared = c;
  concluded = a;
  accepted = h;
  saved = saved;
  shown = shown;
  is = is ∙ ap (λ x. x.status) e;
  put = put ∙ ap (λ x. extended old x.text) e;
}
verdict_shown t k name status r old new v (on_pair c h (too_long full e)) is put = absurd (subst IsOfVerdict (is ∙ ap (λ x. x.status) e) v)
verdict_shown t k name status r old new v (on_pair c h (not_written failed e)) is put = absurd (subst IsOfVerdict (is ∙ ap (λ x. x.status) e) v)

pub saved_of : (t : Texts) (k : Change) (name : List ℕ) (faulted : Type 0) (status : Status) (old new : Option (List ℕ)) → IsOfVerdict status → Answers (VerifyReports t k name) faulted status old new → ShowsSaved t k name status old new
saved_of t k name faulted status old new v a =
    let exact : AnswersSoFar all_put (VerifyReports t k name) faulted status old new = subst (λ x. AnswersSoFar x (VerifyReports t k name) faulted status old new) (whole_of status v) a in
    verdict_shown t k name status exact.0 old new v exact.1 exact.2 exact.3
