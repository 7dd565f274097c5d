use Rattle.found_cells.proofs.ClauseNames.{as_old, as_new}
use Rattle.found_cells.proofs.laws.law_clause_names.Goals as goal

pub returns : goal.returns
returns c = λ f used ordered once no_points k p there as_program q m place is means at other n. (
  as_old f used ordered k p there as_program once no_points q m place is means at other n,
  as_new f used ordered k p there as_program once no_points q m place is means at other n,
)
