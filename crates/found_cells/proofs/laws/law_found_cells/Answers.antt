use Rattle.found_cells.proofs.Found.{cells_found}
use Rattle.found_cells.proofs.laws.law_found_cells.Goals as goal

pub returns : goal.returns
returns c = λ f used ordered once no_points k p there as_program path place m leads n q is_q paired start. cells_found f used ordered once no_points k p there as_program path place m leads n q is_q paired start
