use Rattle.accepted_cells.proofs.Accepted.{few}
use Rattle.accepted_cells.proofs.laws.law_few_cells.Goals as goal

pub returns : goal.returns
returns c = λ text p states. few text p states
