use Rattle.word_laws.proofs.ChoiceLaws.{value-outside}
use Rattle.word_laws.proofs.comparisons.law_outside.Goals as goal

pub returns : goal.returns
returns c = value-outside
