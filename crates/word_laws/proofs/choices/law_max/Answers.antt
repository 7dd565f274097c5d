use Rattle.word_laws.proofs.ChoiceLaws.{value-max}
use Rattle.word_laws.proofs.choices.law_max.Goals as goal

pub returns : goal.returns
returns c = value-max
