use Rattle.std.proofs.Common.{refl}
use Rattle.found_cells.proofs.laws.law_fault.Goals as goal

pub returns : goal.returns
returns c = λ f k p paired start. refl
