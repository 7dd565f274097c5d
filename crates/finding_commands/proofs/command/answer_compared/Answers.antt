use Rattle.std.proofs.Common.{subst}
use Rattle.command_answers.proofs.AnswerLemmas.{answers-wider}
use Rattle.comparison_files.specs.Held.{comparison_in}
use Rattle.comparison_files.specs.MadeCircuits.{formula_of}
use Rattle.comparison_files.specs.Refusals.{ReportsRefusal}
use Rattle.finding_commands.specs.Reports.{ReportsOn, not_compared, on_finding}
use Rattle.finding_commands.proofs.command.answer_compared.Goals as goal

pub returns-in-Ok-clause-answer : goal.returns-in-Ok-clause-answer
returns-in-Ok-clause-answer g c = λ t stated told.
    let on = g.C.FindingCommand.reports in
    let compared = comparison_in c.args.compared.now in
    answers-wider (on compared (formula_of c.in-Ok.circuits) t.finding) (ReportsOn on t) _ _ c.answer.result _ _
    (λ r h. on_finding compared (record { stated = stated; gates = c.in-Ok.ensures.few }) (subst (λ f. on compared f t.finding r) c.in-Ok.ensures.formulas h)) (λ x. x)
    (c.answer.ensures.answer t.finding told)

pub returns-in-Err-clause-answer : goal.returns-in-Err-clause-answer
returns-in-Err-clause-answer g c = λ t stated told.
    answers-wider (ReportsRefusal t) (ReportsOn g.C.FindingCommand.reports t) ⊥ _ c.put_fault.result _ _ (λ r h. not_compared h) (λ x. absurd x)
    (c.put_fault.ensures.answer t (c.in-Err.ensures.refused t stated))
