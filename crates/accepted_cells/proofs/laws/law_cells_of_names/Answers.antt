use Rattle.accepted_cells.proofs.Accepted.{cells_of_names}
use Rattle.accepted_cells.proofs.laws.law_cells_of_names.Goals as goal

pub returns : goal.returns
returns c = λ text p states. cells_of_names text p states
