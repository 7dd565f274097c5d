use Rattle.word_laws.proofs.ShiftLaws.{value-resize}
use Rattle.word_laws.proofs.bits.law_resize.Goals as goal

pub returns : goal.returns
returns c = value-resize
