use Rattle.typed_cells.proofs.AtNames.{cells_at_name}
use Rattle.typed_cells.proofs.laws.law_cells_at_names.Goals as goal

pub returns : goal.returns
returns c = λ f used ordered k p there text m found. cells_at_name f used ordered k p there text m found
