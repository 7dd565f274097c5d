use Rattle.word_laws.proofs.ShiftLaws.{number-rol, number-ror}
use Rattle.word_laws.proofs.bits.law_rotations.Goals as goal

pub returns-clause-left : goal.returns-clause-left
returns-clause-left c = number-rol

pub returns-clause-right : goal.returns-clause-right
returns-clause-right c = number-ror
