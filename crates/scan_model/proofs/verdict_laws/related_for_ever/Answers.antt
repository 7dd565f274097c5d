use Rattle.scan_model.proofs.KeptSets.{related_always}
use Rattle.scan_model.proofs.verdict_laws.related_for_ever.Goals as goal

pub returns : goal.returns
returns goals old new rel kept candidates fits v rows ok = related_always old new rel fits v.1 rows ok
