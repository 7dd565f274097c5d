use Rattle.freshness_laws.proofs.Hinted.{accepted_over_all}
use Rattle.freshness_laws.proofs.laws.law_accepted_over_all.Goals as goal

pub returns : goal.returns
returns c = accepted_over_all
