use Rattle.freshness_laws.proofs.Refuted.{nothing_fresh}
use Rattle.freshness_laws.proofs.laws.law_nothing_fresh_where_refuted.Goals as goal

pub returns : goal.returns
returns c = nothing_fresh
