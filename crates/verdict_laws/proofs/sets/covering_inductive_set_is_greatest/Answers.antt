use Rattle.verdict_laws.proofs.Covering.{covering_is_greatest}
use Rattle.verdict_laws.proofs.sets.covering_inductive_set_is_greatest.Goals as goal

pub returns : goal.returns
returns c = covering_is_greatest
