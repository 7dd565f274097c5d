use Rattle.command_answers.proofs.AnswerLemmas.{answers-wider}
use Rattle.comparison_files.specs.Refusals.{ReportsRefusal}
use Rattle.finding_commands.specs.Reports.{ReportsOn, not_compared}
use Rattle.finding_commands.proofs.command.answer_texts.Goals as goal

pub returns-in-Ok-clause-answer : goal.returns-in-Ok-clause-answer
returns-in-Ok-clause-answer g c = λ t kept told. c.answer_compared.ensures.answer t (c.in-Ok.ensures.ok t kept) told

pub returns-in-Err-clause-answer : goal.returns-in-Err-clause-answer
returns-in-Err-clause-answer g c = λ t kept told.
    answers-wider (ReportsRefusal t) (ReportsOn g.C.FindingCommand.reports t) ⊥ _ c.put_fault.result _ _ (λ r h. not_compared h) (λ x. absurd x)
    (c.put_fault.ensures.answer t (c.in-Err.ensures.refused t kept))
