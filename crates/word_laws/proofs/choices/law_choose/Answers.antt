use Rattle.word_laws.proofs.ChoiceLaws.{value-choose}
use Rattle.word_laws.proofs.choices.law_choose.Goals as goal

pub returns : goal.returns
returns c = value-choose
