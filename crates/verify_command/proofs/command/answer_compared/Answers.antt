use Rattle.std.proofs.Common.{refl, subst}
use Rattle.outside.specs.States.{change}
use Rattle.command_answers.proofs.AnswerLemmas.{answers-wider}
use Rattle.comparison_files.specs.Held.{comparison_in}
use Rattle.comparison_files.specs.MadeCircuits.{formula_of}
use Rattle.comparison_files.specs.Refusals.{ReportsRefusal}
use Rattle.verify_command.specs.Reports.{VerifyReports, not_compared, on_pair, ReportsVerdict, LeavesPart, accepted}
use Rattle.verify_command.proofs.command.answer_compared.Goals as goal

pub returns-in-Ok-clause-left : goal.returns-in-Ok-clause-left
returns-in-Ok-clause-left g c = λ t stated.
    let compared = comparison_in c.args.compared.now in
    let k = change (g.S.Shelf.state c.args.shelf.now) (g.S.Shelf.state c.answer_finding.new.shelf) in
    accepted compared (record { stated = stated; gates = c.in-Ok.ensures.few }) (subst (λ f. LeavesPart compared f k c.args.finding.now) c.in-Ok.ensures.formulas c.answer_finding.ensures.left)

pub returns-in-Ok-clause-answer : goal.returns-in-Ok-clause-answer
returns-in-Ok-clause-answer g c = λ t stated.
    let compared = comparison_in c.args.compared.now in
    let k = change (g.S.Shelf.state c.args.shelf.now) (g.S.Shelf.state c.answer_finding.new.shelf) in
    answers-wider (ReportsVerdict compared (formula_of c.in-Ok.circuits) k c.args.finding.now) (VerifyReports t k c.args.finding.now) ⊥ ⊥ c.answer_finding.result _ _
    (λ r h. on_pair compared (record { stated = stated; gates = c.in-Ok.ensures.few }) (subst (λ f. ReportsVerdict compared f k c.args.finding.now r) c.in-Ok.ensures.formulas h)) (λ x. x)
    c.answer_finding.ensures.answer

pub returns-in-Err-clause-answer : goal.returns-in-Err-clause-answer
returns-in-Err-clause-answer g c = λ t stated.
    let k = change (g.S.Shelf.state c.args.shelf.now) (g.S.Shelf.state c.args.shelf.now) in
    answers-wider (ReportsRefusal t) (VerifyReports t k c.args.finding.now) ⊥ ⊥ c.put_fault.result _ _ (λ r h. not_compared h refl) (λ x. x)
    (c.put_fault.ensures.answer t (c.in-Err.ensures.refused t stated))
