use Rattle.typed_cells.proofs.Scopes.{scope_fits}
use Rattle.typed_cells.proofs.laws.law_scope_fits.Goals as goal

pub returns : goal.returns
returns c = λ f runs used ordered k p there is. scope_fits f runs used ordered k p there is
