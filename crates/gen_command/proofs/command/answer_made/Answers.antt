use Rattle.std.proofs.Common.{refl}
use Rattle.outside.specs.States.{change}
use Rattle.command_answers.proofs.AnswerLemmas.{answers-wider}
use Rattle.verify_command.specs.comparison_files.Refusals.{ReportsRefusal}
use Rattle.gen_command.specs.Made.{texts_of}
use Rattle.gen_command.specs.Reports.{GenReports, not_compared}
use Rattle.gen_command.proofs.command.answer_made.Goals as goal

pub returns-in-Err-clause-answer : goal.returns-in-Err-clause-answer
returns-in-Err-clause-answer g c =
    let t = texts_of c.args.count in
    let k = change (g.S.Shelf.state c.args.shelf.now) (g.S.Shelf.state c.args.shelf.now) in
    answers-wider (ReportsRefusal t) (GenReports c.args.count k) ⊥ ⊥ c.put_fault.result _ _ (λ r h. not_compared h refl) (λ x. x)
    (c.put_fault.ensures.answer t (c.in-Err.ensures.refused t c.requires.made.kept))

pub answer_compared-requires-clause-stated : goal.answer_compared-requires-clause-stated
answer_compared-requires-clause-stated g c = c.in-Ok.ensures.ok (texts_of c.args.count) c.requires.made.kept
