-- What is said where no line follows.
use Rattle.std.specs.Prelude.{ℕ, Result, Ok, Err}
use Rattle.finding_file.specs.declared.errors.ReadErr.{ReadErr}
use Rattle.finding_file.specs.declared.errors.ReadErr.TheVariants as read
use Rattle.judgement.specs.Places.{Place, finished}
use Rattle.judgement.specs.declared.answers.Reason.{Reason}
use Rattle.judgement.specs.declared.answers.Reason.TheVariants.{B1, B12, B13}
use Rattle.judgement.specs.declared.answers.Judged.{Judged}
use Rattle.judgement.specs.declared.answers.Judged.TheVariants.{Valid, Bad}
use Rattle.judgement.specs.declared.answers.JudgeErr.{JudgeErr}
use Rattle.judgement.specs.declared.answers.JudgeErr.TheVariants.{Fault, Memory, M8}

-- behind the END line a line that is broken fails as any byte does
abbrev pub reason_at : Place → Reason → Reason
reason_at (finished reach verdict) reason = B12
reason_at place reason = reason

abbrev pub end_of_file : Place → ℕ → Judged
end_of_file (finished reach verdict) line = Valid verdict reach
end_of_file place line = Bad line B13

abbrev pub stopped : Place → ℕ → ReadErr → Result Judged JudgeErr
stopped place line read.Fault = Err Fault
stopped place line read.Memory = Err Memory
stopped place line read.M8 = Err M8
stopped place line (read.Spelling n) = Ok (Bad line (reason_at place B1))
stopped place line (read.Unended n) = Ok (Bad line (reason_at place B13))
