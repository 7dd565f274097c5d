use Rattle.text_laws.proofs.Stated.{formulas_mean}
use Rattle.text_laws.proofs.texts.law_means.Goals as goal

pub returns : goal.returns
returns c = formulas_mean
