-- Where the status is that of a verdict.
use Rattle.std.proofs.Common.{◌≡◌, ◌∙◌, ℕ, List, Option, ap, subst}
use Rattle.outside.specs.Contents.{extended}
use Rattle.outside.specs.States.{Change}
use Rattle.queries.specs.Comparisons.{Comparison}
use Rattle.command_answers.specs.declared.status.Status.{Status}
use Rattle.command_answers.specs.Reports.{Report}
use Rattle.command_answers.specs.Answers.{Answers, AnswersSoFar, all_put}
use Rattle.verify_command.specs.comparison_files.Accepting.{AreAccepted}
use Rattle.verify_command.specs.comparison_files.Comparing.{formulas_of}
use Rattle.verify_command.proofs.comparison_files.RefusalLemmas.{refusal_status}
use Rattle.generated_texts.specs.Names.{finding_name}
use Rattle.generated_texts.specs.Files.{HoldTexts}
use Rattle.finding_answers.specs.Verdicts.{IsOfVerdict}
use Rattle.verify_command.specs.Reports.{ReportsVerdict, decided, too_long, not_written}
use Rattle.finding_answers.proofs.VerdictLemmas.{whole_of}
use Rattle.gen_command.specs.Made.{texts_of}
use Rattle.gen_command.specs.Lines.{made_line, behind}
use Rattle.gen_command.specs.Reports.{GenReports, not_compared, on_pair, ReportsAccepted, not_saved, saved, ReportsBehind, verified, no_memory, ShowsMade}

module _ (count : ℕ) (k : Change) (status : Status) (old new : Option (List ℕ)) (v : IsOfVerdict status) where
  -- a report is no other one, of a status that is no verdict's
  no_verdict : (r x : Report) → status ≡ r.status → r ≡ x → (IsOfVerdict x.status → ⊥) → ⊥
  no_verdict r x is e h = h (subst IsOfVerdict (is ∙ ap (λ y. y.status) e) v)

  last_shown : (c : Comparison) (r last : Report) → AreAccepted (texts_of count) c → HoldTexts count k.after.file → ReportsVerdict c (formulas_of c) k (finding_name count) last → r ≡ behind (made_line count c) last
      → status ≡ r.status → new ≡ extended old r.text → ShowsMade count k status old new
  last_shown c r last accepted hold (decided a saves shown d) e is put = record {
    compared = c;
    concluded = a;
    accepted = accepted;
    texts = hold;
    saved = saves;
    shown = shown;
    is = is ∙ ap (λ x. x.status) e ∙ ap (λ x. x.status) d;
    put = put ∙ ap (λ x. extended old x.text) (e ∙ ap (behind (made_line count c)) d);
  }
  last_shown c r last accepted hold (too_long full d) e is put = absurd (no_verdict r _ is (e ∙ ap (behind (made_line count c)) d) (λ x. x))
  last_shown c r last accepted hold (not_written failed d) e is put = absurd (no_verdict r _ is (e ∙ ap (behind (made_line count c)) d) (λ x. x))

  behind_shown : (c : Comparison) (r : Report) → AreAccepted (texts_of count) c → HoldTexts count k.after.file → ReportsBehind count c (formulas_of c) k (finding_name count) r
      → status ≡ r.status → new ≡ extended old r.text → ShowsMade count k status old new
  behind_shown c r accepted hold (verified last h e) is put = last_shown c r last accepted hold h e is put
  behind_shown c r accepted hold (no_memory e) is put = absurd (no_verdict r _ is e (λ x. x))

  accepted_shown : (c : Comparison) (r : Report) → AreAccepted (texts_of count) c → ReportsAccepted count c (formulas_of c) k r
      → status ≡ r.status → new ≡ extended old r.text → ShowsMade count k status old new
  accepted_shown c r accepted (not_saved failed e) is put = absurd (no_verdict r _ is e (λ x. x))
  accepted_shown c r accepted (saved hold h) is put = behind_shown c r accepted hold h is put

  report_shown : (r : Report) → GenReports count k r → status ≡ r.status → new ≡ extended old r.text → ShowsMade count k status old new
  report_shown r (not_compared h same) is put = absurd (subst IsOfVerdict (is ∙ refusal_status (texts_of count) r h) v)
  report_shown r (on_pair c h a) is put = accepted_shown c r h a is put

  pub saved_of : (faulted : Type 0) → Answers (GenReports count k) faulted status old new → ShowsMade count k status old new
  saved_of faulted a =
      let exact : AnswersSoFar all_put (GenReports count k) faulted status old new = subst (λ x. AnswersSoFar x (GenReports count k) faulted status old new) (whole_of status v) a in
      report_shown exact.0 exact.1 exact.2 exact.3
