use Rattle.freshness_laws.proofs.Thinnings.{fresh_over_all}
use Rattle.freshness_laws.proofs.laws.law_fresh_over_all.Goals as goal

pub returns : goal.returns
returns c = fresh_over_all
