use Rattle.word_laws.proofs.ChoiceLaws.{value-min}
use Rattle.word_laws.proofs.choices.law_min.Goals as goal

pub returns : goal.returns
returns c = value-min
