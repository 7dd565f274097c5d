use Rattle.std.proofs.Common.{◌≡◌}
use Rattle.command_answers.specs.Reports.{refusal_report, limit_report}
use Rattle.command_answers.proofs.AnswerLemmas.{answers-wider}
use Rattle.comparison_files.specs.Refusals.{ReportsRefusal, refused, too_large}
use Rattle.comparison_files.proofs.refusal.put_fault.Goals as goal

pub returns-in-Refused-clause-answer : goal.returns-in-Refused-clause-answer
returns-in-Refused-clause-answer g c = λ t h.
    let is = rw c.in-Refused.is at h in
    answers-wider (λ r. r ≡ refusal_report c.in-Refused.source c.in-Refused.refusal) (ReportsRefusal t) ⊥ ⊥ c.put_refusal.result _ _
    (λ r e. refused c.in-Refused.source c.in-Refused.refusal is e) (λ x. x) c.put_refusal.ensures.answer

pub returns-in-TooLarge-clause-answer : goal.returns-in-TooLarge-clause-answer
returns-in-TooLarge-clause-answer g c = λ t h.
    let is = rw c.in-TooLarge.is at h in
    answers-wider (λ r. r ≡ limit_report c.in-TooLarge.source c.in-TooLarge.limit) (ReportsRefusal t) ⊥ ⊥ c.put_limit.result _ _
    (λ r e. too_large c.in-TooLarge.source c.in-TooLarge.limit is e) (λ x. x) c.put_limit.ensures.answer
