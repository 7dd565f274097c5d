use Rattle.scan_model.proofs.Keeping.{IsInRange-scanned, IsPairInRange-after_row}
use Rattle.scan_model.proofs.laws.ranges_are_kept.Goals as goal

pub returns-clause-scans : goal.returns-clause-scans
returns-clause-scans c = IsInRange-scanned

pub returns-clause-rows : goal.returns-clause-rows
returns-clause-rows c = IsPairInRange-after_row
