use Rattle.word_laws.proofs.SumLaws.{value-sub}
use Rattle.word_laws.proofs.sums.law_sub.Goals as goal

pub returns : goal.returns
returns c = value-sub
