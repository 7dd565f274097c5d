use Rattle.word_laws.proofs.ChoiceLaws.{value-abs}
use Rattle.word_laws.proofs.choices.law_abs.Goals as goal

pub returns : goal.returns
returns c = value-abs
