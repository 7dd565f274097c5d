use Rattle.verdict_laws.proofs.Covering.{one_size_is}
use Rattle.verdict_laws.proofs.sets.greatest_sets_have_one_size.Goals as goal

pub returns : goal.returns
returns c = one_size_is
