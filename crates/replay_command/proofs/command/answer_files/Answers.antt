use Rattle.std.proofs.Common.{Err, ap}
use Rattle.replay_command.specs.Reports.{Reports}
use Rattle.command_answers.proofs.AnswerLemmas.{answers-wider, fault_answered}
use Rattle.replay_command.proofs.command.answer_files.Goals as goal

pub returns-in-Ok-clause-answer : goal.returns-in-Ok-clause-answer
returns-in-Ok-clause-answer g c = λ t told.
    answers-wider (Reports t) (Reports t) ⊥ _ c.put_answer.result _ _ (λ r h. h) (λ x. absurd x) (c.put_answer.ensures.answer t (c.in-Ok.ensures.texts t told))

pub returns-in-Err-Fault-clause-answer : goal.returns-in-Err-Fault-clause-answer
returns-in-Err-Fault-clause-answer g c = λ t told.
    let rose = c.in-Err-Fault.ensures.fault (ap Err c.in-Err-Fault.field-0-is) in
    fault_answered (Reports t) _ c.put_last.result _ _ rose c.put_last.ensures.put
