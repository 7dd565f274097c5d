use Rattle.word_laws.proofs.ShiftLaws.{number-shl, number-shr}
use Rattle.word_laws.proofs.bits.law_shifts.Goals as goal

pub returns-clause-left : goal.returns-clause-left
returns-clause-left c = number-shl

pub returns-clause-right : goal.returns-clause-right
returns-clause-right c = number-shr
