use Rattle.word_laws.proofs.BitLaws.{number-bitwise}
use Rattle.word_laws.proofs.bits.law_bitwise.Goals as goal

pub returns : goal.returns
returns c = number-bitwise
