use Rattle.std.proofs.Common.{Err, ap}
use Rattle.outside.specs.States.{change}
use Rattle.command_answers.proofs.AnswerLemmas.{answers-wider, fault_answered}
use Rattle.verify_command.specs.Reports.{VerifyReports}
use Rattle.verify_command.proofs.Answering.{reports_since, left_since}
use Rattle.verify_command.proofs.command.answer_files.Goals as goal

pub returns-in-Ok-clause-left : goal.returns-in-Ok-clause-left
returns-in-Ok-clause-left g c = λ t told.
    left_since (g.S.Shelf.state c.args.shelf.now) (g.S.Shelf.state c.read_texts.new.shelf) (g.S.Shelf.state c.answer_texts.new.shelf) c.args.finding.now
    c.in-Ok.ensures.kept c.in-Ok.ensures.writes t (c.answer_texts.ensures.left t (c.in-Ok.ensures.texts t told))

pub returns-in-Ok-clause-answer : goal.returns-in-Ok-clause-answer
returns-in-Ok-clause-answer g c = λ t told.
    let late = change (g.S.Shelf.state c.read_texts.new.shelf) (g.S.Shelf.state c.answer_texts.new.shelf) in
    let whole = change (g.S.Shelf.state c.args.shelf.now) (g.S.Shelf.state c.answer_texts.new.shelf) in
    answers-wider (VerifyReports t late c.args.finding.now) (VerifyReports t whole c.args.finding.now) ⊥ _ c.answer_texts.result _ _
    (reports_since (g.S.Shelf.state c.args.shelf.now) (g.S.Shelf.state c.read_texts.new.shelf) (g.S.Shelf.state c.answer_texts.new.shelf) c.args.finding.now
    c.in-Ok.ensures.kept c.in-Ok.ensures.writes t)
    (λ x. absurd x) (c.answer_texts.ensures.answer t (c.in-Ok.ensures.texts t told))

pub returns-in-Err-Fault-clause-answer : goal.returns-in-Err-Fault-clause-answer
returns-in-Err-Fault-clause-answer g c = λ t told.
    let k = change (g.S.Shelf.state c.args.shelf.now) (g.S.Shelf.state c.read_texts.new.shelf) in
    let rose = c.in-Err-Fault.ensures.fault (ap Err c.in-Err-Fault.field-0-is) in
    fault_answered (VerifyReports t k c.args.finding.now) _ c.put_last.result _ _ rose c.put_last.ensures.put
