use Rattle.accepted_cells.proofs.Accepted.{stands_for_cell}
use Rattle.accepted_cells.proofs.laws.law_names_in_clauses.Goals as goal

pub returns : goal.returns
returns c = λ text p states q m place is means at. stands_for_cell text p states q m place is means at
