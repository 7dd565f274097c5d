use Rattle.word_laws.proofs.SumLaws.{value-add}
use Rattle.word_laws.proofs.sums.law_add.Goals as goal

pub returns : goal.returns
returns c = value-add
