use Rattle.text_laws.proofs.Said.{valid_says}
use Rattle.text_laws.proofs.answers.law_valid.Goals as goal

pub returns : goal.returns
returns c = valid_says
