-- What is asked of a file: each POU uses the blocks of its instances, and no POU is in terms of itself.
use Rattle.std.specs.Prelude.{◌≡◌, ℕ, true, length, Some}
use Rattle.std.specs.List.{AllByRecursion}
use Rattle.call_order.specs.Uses.{uses_at, is_among, order_of}
use Rattle.source_tree.specs.Syntax.{FileData}
use Rattle.naming.specs.Circles.{uses_of}
use Rattle.naming.specs.FileScope.{pous_of}
use Rattle.naming.specs.Scopes.{Variable, block_of}
use Rattle.typing.specs.Variables.{judged_variables}
use Rattle.typing.specs.Places.{variables_at}

abbrev pub IsUsedBlock : FileData → ℕ → Variable → Type 0
IsUsedBlock f k v = (b : ℕ) → block_of f v ≡ Some b → is_among b (uses_at (uses_of f) k) ≡ true

abbrev pub UsesItsBlocks : FileData → Type 0
UsesItsBlocks f = (k : ℕ) → AllByRecursion (IsUsedBlock f k) (variables_at f k)

-- no declaration of a variable breaks a rule on types
abbrev pub AreWhole : FileData → Type 0
AreWhole f = (k : ℕ) → (judged_variables f (variables_at f k)).whole ≡ true

abbrev pub IsOrdered : FileData → Type 0
IsOrdered f = length (order_of (uses_of f)) ≡ length (pous_of f)
