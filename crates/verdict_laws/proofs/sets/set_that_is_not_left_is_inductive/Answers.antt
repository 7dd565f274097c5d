use Rattle.verdict_laws.proofs.Covering.{unleft_is_inductive}
use Rattle.verdict_laws.proofs.sets.set_that_is_not_left_is_inductive.Goals as goal

pub returns : goal.returns
returns c = unleft_is_inductive
