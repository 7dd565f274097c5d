use Rattle.text_laws.proofs.Stated.{stated_relatable}
use Rattle.text_laws.proofs.texts.law_accepted.Goals as goal

pub returns : goal.returns
returns c = stated_relatable
