use Rattle.running_laws.proofs.StatedScans.{rows_same}
use Rattle.running_laws.proofs.laws.law_rows.Goals as goal

pub returns : goal.returns
returns c = rows_same
