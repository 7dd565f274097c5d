use Rattle.std.proofs.Common.{refl}
use Rattle.command_answers.proofs.answer.put_last.Goals as goal

pub returns-in-Err-Fault-clause-put : goal.returns-in-Err-Fault-clause-put
returns-in-Err-Fault-clause-put g c = record { whole = λ w m. absurd (w refl); part = c.in-Err-Fault.ensures.part }

pub returns-in-Err-Memory-clause-put : goal.returns-in-Err-Memory-clause-put
returns-in-Err-Memory-clause-put g c = record { whole = λ w m. absurd (m refl); part = c.in-Err-Memory.ensures.part }
