use Rattle.cell_paths.proofs.Cells.{paths_stand}
use Rattle.cell_paths.proofs.laws.law_paths.Goals as goal

pub returns : goal.returns
returns c = λ f used ordered k p there as_program path place m leads. paths_stand f used ordered k p there as_program path place m leads
