-- From what is said of a finding to the answer.
use Rattle.std.proofs.Common.{◌≡◌, ℕ, List, Option, ap, ◌∙◌}
use Rattle.outside.specs.Contents.{extended}
use Rattle.judgement.specs.declared.answers.Judged.TheVariants as judgements
use Rattle.command_answers.specs.declared.status.Status.TheVariants.{Valid, Invalid, Refused}
use Rattle.command_answers.specs.Reports.{Report}
use Rattle.command_answers.specs.Answers.{IsExact}
use Rattle.comparison_files.specs.Texts.{Texts}
use Rattle.comparison_files.proofs.RefusalLemmas.{refusal_status}
use Rattle.finding_commands.specs.Reports.{not_compared, on_finding}
use Rattle.finding_commands.specs.Checks.{CheckReports, judged, too_long, ShowsValid}

-- where the status is VALID, a verdict was put that is shown
valid_shown : (t : Texts) (r : Report) (old new : Option (List ℕ)) → CheckReports t r → Valid ≡ r.status → new ≡ extended old r.text → ShowsValid t old new
valid_shown t r old new (not_compared h) s put = absurd (let g : Valid ≡ Refused = s ∙ refusal_status t r h in cc)
valid_shown t r old new (on_finding c accepted (judged (judgements.Valid verdict reach) is (shown, reached) e)) s put = record {
  compared = c;
  verdict = verdict;
  reach = reach;
  accepted = accepted;
  judged = is;
  shown = shown;
  reached = reached;
  put = put ∙ ap (λ x. extended old x.text) e;
}
valid_shown t r old new (on_finding c accepted (judged (judgements.Bad line reason) is shown e)) s put = absurd (let g : Valid ≡ Invalid = s ∙ ap (λ x. x.status) e in cc)
valid_shown t r old new (on_finding c accepted (too_long is e)) s put = absurd (let g : Valid ≡ Refused = s ∙ ap (λ x. x.status) e in cc)

pub exact_shown : (t : Texts) (old new : Option (List ℕ)) → IsExact (CheckReports t) Valid old new → ShowsValid t old new
exact_shown t old new (r, h, s, put) = valid_shown t r old new h s put
