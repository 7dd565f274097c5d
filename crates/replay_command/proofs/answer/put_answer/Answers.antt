use Rattle.std.proofs.Common.{◌≡◌}
use Rattle.program_tree.specs.View.{program_view}
use Rattle.scan_model.specs.Pairs.{relation_view}
use Rattle.replay_command.specs.Outcomes.{outcome_of}
use Rattle.replay_command.specs.Played.{outcome_report}
use Rattle.command_answers.specs.Reports.{refusal_report}
use Rattle.replay_command.specs.Reports.{Reports, refused}
use Rattle.replay_command.proofs.Reporting.{reports_outcome}
use Rattle.command_answers.proofs.AnswerLemmas.{answers-wider}
use Rattle.replay_command.proofs.answer.put_answer.Goals as goal

pub returns-in-Ok-clause-answer : goal.returns-in-Ok-clause-answer
returns-in-Ok-clause-answer g c = λ t kept.
    let old = program_view c.in-Ok.replay.old in
    let new = program_view c.in-Ok.replay.new in
    let rel = relation_view c.in-Ok.replay.relation in
    let rows = c.in-Ok.replay.rows in
    answers-wider (λ r. r ≡ outcome_report (outcome_of old new rel rows)) (Reports t) ⊥ ⊥ c.put_replay.result _ _
    (λ r e. reports_outcome t old new rel rows r (c.in-Ok.ensures.ok t kept) e) (λ x. x) c.put_replay.ensures.answer

pub returns-in-Err-Refused-clause-answer : goal.returns-in-Err-Refused-clause-answer
returns-in-Err-Refused-clause-answer g c = λ t kept.
    answers-wider (λ r. r ≡ refusal_report c.in-Err-Refused.source c.in-Err-Refused.refusal) (Reports t) ⊥ ⊥ c.put_refusal.result _ _
    (λ r e. refused c.in-Err-Refused.source c.in-Err-Refused.refusal (rw c.in-Err-Refused.field-0-is at (c.in-Err-Refused.ensures.refused t kept)) e) (λ x. x) c.put_refusal.ensures.answer
