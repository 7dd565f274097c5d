use Rattle.std.proofs.Common.{refl}
use Rattle.outside.specs.States.{change}
use Rattle.command_answers.proofs.AnswerLemmas.{answers-wider}
use Rattle.comparison_files.specs.Refusals.{ReportsRefusal}
use Rattle.verify_command.specs.Reports.{VerifyReports, not_compared}
use Rattle.verify_command.proofs.command.answer_texts.Goals as goal

pub returns-in-Ok-clause-left : goal.returns-in-Ok-clause-left
returns-in-Ok-clause-left g c = λ t kept. c.answer_compared.ensures.left t (c.in-Ok.ensures.ok t kept)

pub returns-in-Err-clause-answer : goal.returns-in-Err-clause-answer
returns-in-Err-clause-answer g c = λ t kept.
    let k = change (g.S.Shelf.state c.args.shelf.now) (g.S.Shelf.state c.args.shelf.now) in
    answers-wider (ReportsRefusal t) (VerifyReports t k c.args.finding.now) ⊥ ⊥ c.put_fault.result _ _ (λ r h. not_compared h refl) (λ x. x)
    (c.put_fault.ensures.answer t (c.in-Err.ensures.refused t kept))
