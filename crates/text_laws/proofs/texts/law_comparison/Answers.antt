use Rattle.text_laws.proofs.Stated.{stated_comparison}
use Rattle.text_laws.proofs.texts.law_comparison.Goals as goal

pub returns : goal.returns
returns c = stated_comparison
