use Rattle.flat_core.proofs.Agreeing.{agreeing_scans}
use Rattle.flat_core.proofs.laws.scratch_does_not_count.Goals as goal

pub returns : goal.returns
returns c = agreeing_scans
