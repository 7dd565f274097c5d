-- What the names of a POU stand for fits its cells.
use Rattle.std.proofs.Common.{◌≡◌, ℕ, Bool, true, Some}
use Rattle.call_order.specs.Marks.{is_marked}
use Rattle.source_tree.specs.Syntax.{PouData, FileData}
use Rattle.naming.specs.FileScope.{pou_at}
use Rattle.typing.specs.Reached.{reached}
use Rattle.typing.specs.Places.{sizes_of}
use Rattle.typing.specs.Members.{scope_of}
use Rattle.typed_scopes.specs.Fitting.{ScopeFits}
use Rattle.typed_cells.specs.Uses.{uses_of_pou}
use Rattle.typed_cells.specs.Places.{last, scope_over, pous}
use Rattle.typed_cells.specs.Premises.{UsesItsBlocks, IsOrdered}
use Rattle.typed_cells.proofs.Meanings.{names_fit}
use Rattle.typed_cells.proofs.Signatures.{signatures_fit}
use Rattle.typed_cells.proofs.Instances.{instances_fit}

pub scope_fits : (f : FileData) (runs : ℕ → Bool) → UsesItsBlocks f → IsOrdered f → (k : ℕ) (p : PouData) → pou_at f k ≡ Some p → is_marked (reached f) k ≡ true
    → ScopeFits (pous f runs) (scope_over f k p) (last f) (scope_of f (sizes_of f) k) (uses_of_pou f k)
scope_fits f runs used ordered k p there is = record {
  names = names_fit f used ordered k p there is;
  functions = signatures_fit f runs used ordered k p there is;
  instances = instances_fit f used ordered k p there is runs;
}
