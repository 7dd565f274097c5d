use Rattle.std.proofs.Common.{Err, ◌∙◌, ap, inl, inr}
use Rattle.command_answers.proofs.AnswerLemmas.{answers-wider, fault_answered}
use Rattle.comparison_files.proofs.RefusalLemmas.{rose_since}
use Rattle.finding_commands.specs.Reports.{ReportsOn}
use Rattle.finding_commands.proofs.command.answer_on_finding.Goals as goal

pub returns-in-Ok-clause-answer : goal.returns-in-Ok-clause-answer
returns-in-Ok-clause-answer g c = λ t told.
    let finding = ap (λ f. f c.args.finding.now) c.in-Ok.ensures.kept ∙ told.fourth_told in
    let reports = ReportsOn g.C.FindingCommand.reports t in
    answers-wider reports reports _ _ c.answer_texts.result _ _ (λ r h. h)
    (λ rose. inr (rose_since _ _ _ (c.in-Ok.ensures.reads c.args.finding.now) rose))
    (c.answer_texts.ensures.answer t (c.in-Ok.ensures.texts t told.three_told) finding)

pub returns-in-Ok-clause-read_fault : goal.returns-in-Ok-clause-read_fault
returns-in-Ok-clause-read_fault g c = λ e. inr (rose_since _ _ _ (c.in-Ok.ensures.reads c.args.finding.now) (c.answer_texts.ensures.read_fault e))

pub returns-in-Err-Fault-clause-answer : goal.returns-in-Err-Fault-clause-answer
returns-in-Err-Fault-clause-answer g c = λ t told.
    let rose = c.in-Err-Fault.ensures.fault (ap Err c.in-Err-Fault.field-0-is) in
    fault_answered (ReportsOn g.C.FindingCommand.reports t) _ c.put_last.result _ _ (inl rose) c.put_last.ensures.put
