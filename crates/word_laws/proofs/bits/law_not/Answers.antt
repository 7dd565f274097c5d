use Rattle.word_laws.proofs.BitLaws.{value-not}
use Rattle.word_laws.proofs.bits.law_not.Goals as goal

pub returns : goal.returns
returns c = value-not
