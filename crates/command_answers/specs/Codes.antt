-- The numbers of statuses.
use Rattle.std.specs.Prelude.{ℕ}
use Rattle.command_answers.specs.declared.status.Status.{Status}
use Rattle.command_answers.specs.declared.status.Status.TheVariants.{Related, Different, Open, Vacuous, Spent, Valid, Invalid, Replayed, Unrelated, NotAllowed, Usage, Refused, ReadFault, WriteFault, Memory}

abbrev pub code_of : Status → ℕ
code_of Related = 0
code_of Valid = 0
code_of Replayed = 0
code_of Different = 1
code_of Unrelated = 1
code_of Usage = 2
code_of Open = 3
code_of Spent = 4
code_of Vacuous = 5
code_of Refused = 6
code_of ReadFault = 7
code_of WriteFault = 8
code_of Memory = 9
code_of Invalid = 10
code_of NotAllowed = 11
