use Rattle.word_laws.proofs.SumLaws.{value-mul}
use Rattle.word_laws.proofs.sums.law_mul.Goals as goal

pub returns : goal.returns
returns c = value-mul
