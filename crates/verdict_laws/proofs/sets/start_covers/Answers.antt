use Rattle.verdict_laws.proofs.Covering.{start_covers_is, start_meets_is}
use Rattle.verdict_laws.proofs.sets.start_covers.Goals as goal

pub returns-clause-covers : goal.returns-clause-covers
returns-clause-covers c = start_covers_is

pub returns-clause-meets : goal.returns-clause-meets
returns-clause-meets c = start_meets_is
