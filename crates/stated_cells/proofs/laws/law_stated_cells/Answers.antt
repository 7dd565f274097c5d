use Rattle.stated_cells.proofs.StatedCells.{cells_stated}
use Rattle.stated_cells.proofs.laws.law_stated_cells.Goals as goal

pub returns : goal.returns
returns c = cells_stated
