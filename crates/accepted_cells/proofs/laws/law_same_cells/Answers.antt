use Rattle.accepted_cells.proofs.OnlyCells.{first_same}
use Rattle.accepted_cells.proofs.Accepted.{apart}
use Rattle.accepted_cells.proofs.laws.law_same_cells.Goals as goal

pub returns : goal.returns
returns c = λ text new states j d there pair_type cell place behind is. first_same pair_type cell place behind new.cells (apart text new states) j d there is
