use Rattle.running_laws.proofs.StatedScans.{scans_same}
use Rattle.running_laws.proofs.laws.law_scans.Goals as goal

pub returns : goal.returns
returns c = scans_same
