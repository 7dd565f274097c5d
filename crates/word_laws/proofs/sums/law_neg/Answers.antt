use Rattle.word_laws.proofs.SumLaws.{value-neg}
use Rattle.word_laws.proofs.sums.law_neg.Goals as goal

pub returns : goal.returns
returns c = value-neg
