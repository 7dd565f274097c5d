-- What clauses rest on in a program: a cell of an enumeration has the range of the enumeration's values, of which there are few; and each step of
-- a chart has a flag.
use Rattle.std.specs.Prelude.{◌≡◌, ◌<◌, ◌+◌, ℕ, zero, suc, ℤ, pos, List, [], ◌∷◌, length, map, Bool, true, false}
use Rattle.std.specs.List.{AllByRecursion}
use Rattle.plc_types.specs.declared.elementary.Elementary.TheVariants as types
use Rattle.plc_types.specs.declared.data_type.DataType.{DataType}
use Rattle.plc_types.specs.declared.data_type.DataType.TheVariants as kinds
use Rattle.plc_types.specs.Enumerations.{names_at}
use Rattle.program_tree.specs.declared.typed.ChartCells.{ChartCells}
use Rattle.program_tree.specs.Tree.{CellData, ProgramData}
use Rattle.program_tree.specs.declared.scratch.Scratch.{Scratch}
use Rattle.program_tree.specs.Places.{whole_cell, of_cell, place_at}
use Rattle.typed_files.specs.typed_scopes.Types.{IsKnown, IsPlaceOf}

-- the number of the last of some values
abbrev pub last_number : List (List ℕ) → ℤ
last_number [] = pos 0
last_number (n ∷ ns) = pos (length ns)

-- that of each enumeration among types
abbrev pub last_of : List (List (List ℕ)) → ℕ → ℤ
last_of types t = last_number (names_at types t)

abbrev pub has_values : List (List ℕ) → Bool
has_values [] = false
has_values (n ∷ ns) = true

-- an enumeration is one of these types
abbrev pub IsOfTypes : List (List (List ℕ)) → DataType → Type 0
IsOfTypes types (kinds.Elementary k) = Unit {0}
IsOfTypes types (kinds.Enumeration t) = has_values (names_at types t) ≡ true
IsOfTypes types kinds.Unknown = ⊥

-- a cell takes numbers of its type, and all of them where it is no subrange
pub record IsStatedCell (types : List (List (List ℕ))) (c : CellData) : Type 0 where
  pub place : IsPlaceOf (last_of types) c.kind (of_cell c)
  pub among : IsOfTypes types c.kind

-- so many steps have flags from a place on, two places for each
abbrev pub AreFlags : List Scratch → ℕ → ℕ → Type 0
AreFlags places place zero = Unit {0}
AreFlags places place (suc steps) = (place < length places) × (place_at places place ≡ whole_cell types.Bool) × AreFlags places (place + 2) steps

abbrev pub HasFlags : List Scratch → ChartCells → Type 0
HasFlags places k = AreFlags places k.first k.steps

pub record HasStatedCells (p : ProgramData) : Type 0 where
  pub cells : AllByRecursion (IsStatedCell p.types) p.cells
  pub few : (t : ℕ) → IsKnown (last_of p.types) (kinds.Enumeration t)
  pub charts : AllByRecursion (HasFlags (map of_cell p.cells)) p.charts
