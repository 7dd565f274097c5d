-- From what is said of a finding to the answer.
use Rattle.std.proofs.Common.{◌≡◌, ℕ, List, Option, Ok, ap, ◌∙◌}
use Rattle.std.specs.Prelude.{◌++◌, codes}
use Rattle.outside.specs.Contents.{extended}
use Rattle.clause_core.specs.Formula.{Formula}
use Rattle.queries.specs.Comparisons.{Comparison}
use Rattle.queries.specs.Questions.{QueryData}
use Rattle.command_answers.specs.declared.status.Status.TheVariants.{Valid, Invalid, Refused}
use Rattle.command_answers.specs.Reports.{Report}
use Rattle.command_answers.specs.Answers.{IsExact}
use Rattle.comparison_files.specs.Texts.{Texts}
use Rattle.finding_answers.specs.Lines.{most_bytes}
use Rattle.comparison_files.proofs.RefusalLemmas.{refusal_status}
use Rattle.finding_commands.specs.Reports.{not_compared, on_finding}
use Rattle.finding_explain.specs.declared.answers.Explained.{Explained}
use Rattle.finding_explain.specs.declared.answers.Explained.TheVariants as explanations
use Rattle.finding_explain.specs.Explaining.{IsExplained}
use Rattle.finding_commands.specs.Lines.{explained_report}
use Rattle.finding_commands.specs.Explanations.{ExplainReports, ReportsExplained, explained, invalid, too_long, ShowsExplained}

-- what is said of a finding is its report
pub reported : (c : Comparison) (formula : QueryData → Formula) (file : List ℕ) (said : Explained) (r : Report) → IsExplained c formula most_bytes file (Ok said) → r ≡ explained_report said
    → ReportsExplained c formula file r
reported c formula file (explanations.Valid text) r is e =
    explained is.0 is.1 is.2 is.3 is.4 (e ∙ ap (λ (l : List ℕ). record { text = l ++ codes "\n"; status = Valid }) is.5)
reported c formula file (explanations.Bad line reason) r is e = invalid line reason is e

-- where the status is that of VALID, a report was put that is shown
explained_shown : (t : Texts) (r : Report) (old new : Option (List ℕ)) → ExplainReports t r → Valid ≡ r.status → new ≡ extended old r.text → ShowsExplained t old new
explained_shown t r old new (not_compared h) s put = absurd (let g : Valid ≡ Refused = s ∙ refusal_status t r h in cc)
explained_shown t r old new (on_finding c accepted (explained ls verdict reach stands shown e)) s put = record {
  compared = c;
  lines = ls;
  verdict = verdict;
  reach = reach;
  accepted = accepted;
  stands = stands;
  shown = shown;
  put = put ∙ ap (λ x. extended old x.text) e;
}
explained_shown t r old new (on_finding c accepted (invalid line reason is e)) s put = absurd (let g : Valid ≡ Invalid = s ∙ ap (λ x. x.status) e in cc)
explained_shown t r old new (on_finding c accepted (too_long is e)) s put = absurd (let g : Valid ≡ Refused = s ∙ ap (λ x. x.status) e in cc)

pub exact_shown : (t : Texts) (old new : Option (List ℕ)) → IsExact (ExplainReports t) Valid old new → ShowsExplained t old new
exact_shown t old new (r, h, s, put) = explained_shown t r old new h s put
