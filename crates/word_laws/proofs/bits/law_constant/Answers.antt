use Rattle.word_laws.proofs.BitLaws.{value-constant}
use Rattle.word_laws.proofs.bits.law_constant.Goals as goal

pub returns : goal.returns
returns c = value-constant
