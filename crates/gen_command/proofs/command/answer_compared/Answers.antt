use Rattle.std.proofs.Common.{refl, subst}
use Rattle.outside.specs.States.{change}
use Rattle.command_answers.proofs.AnswerLemmas.{answers-wider}
use Rattle.verify_command.specs.comparison_files.Held.{comparison_in}
use Rattle.verify_command.specs.comparison_files.MadeCircuits.{formula_of}
use Rattle.verify_command.specs.comparison_files.Refusals.{ReportsRefusal}
use Rattle.generated_texts.specs.Names.{finding_name}
use Rattle.verify_command.specs.Reports.{LeavesPart, accepted}
use Rattle.gen_command.specs.Made.{texts_of}
use Rattle.gen_command.specs.Reports.{GenReports, not_compared, on_pair, ReportsAccepted}
use Rattle.gen_command.proofs.command.answer_compared.Goals as goal

pub returns-in-Ok-clause-left : goal.returns-in-Ok-clause-left
returns-in-Ok-clause-left g c =
    let compared = comparison_in c.args.compared.now in
    let k = change (g.S.Shelf.state c.args.shelf.now) (g.S.Shelf.state c.answer_accepted.new.shelf) in
    record {
      texts = c.answer_accepted.ensures.texts;
      finding = accepted compared (record { stated = c.requires.stated; gates = c.in-Ok.ensures.few }) (subst (λ f. LeavesPart compared f k (finding_name c.args.count)) c.in-Ok.ensures.formulas c.answer_accepted.ensures.left);
    }

pub returns-in-Ok-clause-answer : goal.returns-in-Ok-clause-answer
returns-in-Ok-clause-answer g c =
    let compared = comparison_in c.args.compared.now in
    let k = change (g.S.Shelf.state c.args.shelf.now) (g.S.Shelf.state c.answer_accepted.new.shelf) in
    answers-wider (ReportsAccepted c.args.count compared (formula_of c.in-Ok.circuits) k) (GenReports c.args.count k) ⊥ ⊥ c.answer_accepted.result _ _
    (λ r h. on_pair compared (record { stated = c.requires.stated; gates = c.in-Ok.ensures.few }) (subst (λ f. ReportsAccepted c.args.count compared f k r) c.in-Ok.ensures.formulas h)) (λ x. x)
    c.answer_accepted.ensures.answer

pub returns-in-Err-clause-answer : goal.returns-in-Err-clause-answer
returns-in-Err-clause-answer g c =
    let t = texts_of c.args.count in
    let k = change (g.S.Shelf.state c.args.shelf.now) (g.S.Shelf.state c.args.shelf.now) in
    answers-wider (ReportsRefusal t) (GenReports c.args.count k) ⊥ ⊥ c.put_fault.result _ _ (λ r h. not_compared h refl) (λ x. x)
    (c.put_fault.ensures.answer t (c.in-Err.ensures.refused t c.requires.stated))
