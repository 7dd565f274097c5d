use Rattle.cell_paths.proofs.Cells.{cells_stand}
use Rattle.cell_paths.proofs.laws.law_named_cells.Goals as goal

pub returns : goal.returns
returns c = λ f used ordered k p there as_program text m found. cells_stand f used ordered k p there as_program text m found
