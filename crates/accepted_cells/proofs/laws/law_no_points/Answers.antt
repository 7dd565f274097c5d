use Rattle.accepted_cells.proofs.NoPoints.{no_points}
use Rattle.accepted_cells.proofs.laws.law_no_points.Goals as goal

pub returns : goal.returns
returns c = no_points
