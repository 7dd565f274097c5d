use Rattle.word_laws.proofs.ChoiceLaws.{value-compare}
use Rattle.word_laws.proofs.comparisons.law_compare.Goals as goal

pub returns : goal.returns
returns c = value-compare
