use Rattle.accepted_cells.proofs.Accepted.{distinct}
use Rattle.accepted_cells.proofs.laws.law_paths_once.Goals as goal

pub returns : goal.returns
returns c = λ text p states. distinct text p states
