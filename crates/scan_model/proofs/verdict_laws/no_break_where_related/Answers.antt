use Rattle.scan_model.proofs.KeptSets.{no_break}
use Rattle.scan_model.proofs.verdict_laws.no_break_where_related.Goals as goal

pub returns : goal.returns
returns goals old new rel kept candidates fits v d b = no_break old new rel fits v.1 d b
