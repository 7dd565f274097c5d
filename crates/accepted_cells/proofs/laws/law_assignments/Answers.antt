use Rattle.accepted_cells.proofs.Accepted.{writes_its_cell}
use Rattle.accepted_cells.proofs.laws.law_assignments.Goals as goal

pub returns : goal.returns
returns c = λ text p states q e is. writes_its_cell text p states q e is
