-- The paths of the cells of a PROGRAM, by what its names stand for.
use Rattle.std.specs.Prelude.{◌≡◌, ◌<◌, ℕ, pos, ◌+◌, ◌&&◌, List, [], ◌∷◌, ◌++◌, length, codes, false, not, Option, Some, None, is_some, if◌then◌else◌, slice_get}
use Rattle.plc_types.specs.declared.data_type.DataType.{DataType}
use Rattle.plc_types.specs.declared.range.Range.{Range}
use Rattle.source_tree.specs.Syntax.{PouData, FileData}
use Rattle.program_tree.specs.Tree.{CellData}
use Rattle.naming.specs.FileScope.{pous_of}
use Rattle.naming.specs.Scopes.{Variable, variables_in_pou, variable_named, is_step, block_of}
use Rattle.typing.specs.declared.member.Member.{Member}
use Rattle.typing.specs.Places.{has_cell, is_stored_action, sizes_of}
use Rattle.typing.specs.Members.{member_of, member_at}
use Rattle.typing.specs.TypedPrograms.{flag_cell, active_first, cell_for, block_cells}

-- ---- the cells of a name of a PROGRAM

-- of a step its two flags, of an action that is stored its latch, and of any other name that is no instance one cell
abbrev pub own_cells : FileData → Variable → List CellData
own_cells f v =
    if is_step v.role then flag_cell (Some []) v.name (codes "X") (active_first v.role) ∷ flag_cell (Some []) v.name (codes "L") (pos 0) ∷ []
    else (if is_stored_action v.role then flag_cell (Some []) v.name (codes "S") (pos 0) ∷ [] else cell_for f false (Some []) v ∷ [])

-- of an instance the cells of its block, whose paths stand behind the instance's name and a point
abbrev pub cells_by : FileData → Variable → Option ℕ → List CellData
cells_by f v None = own_cells f v
cells_by f v (Some b) = block_cells f (length (pous_of f)) (Some (v.name.text ++ codes ".")) b

-- constants have no cells, nor have transitions and actions that are not stored
abbrev pub named_cells : FileData → Variable → List CellData
named_cells f v = if has_cell v.role then cells_by f v (block_of f v) else []

-- some cells stand among others, from a place on
abbrev pub StandAmong : List CellData → List CellData → ℕ → Type 0
StandAmong cells owner place = (n : ℕ) → n < length cells → slice_get owner (place + n) ≡ slice_get cells n

-- a name is that of a variable, and the variable's cells stand at its place
pub record HasNamedCells (f : FileData) (p : PouData) (cells : List CellData) (text : List ℕ) (m : Member) : Type 0 where
  pub variable : Variable
  pub named : variable_named text (variables_in_pou p) ≡ Some variable
  pub is : m ≡ member_of f m.cell variable
  pub stand : StandAmong (named_cells f variable) cells m.cell

-- ---- names joined by points

-- What names that are joined by points stand for in the POU of a number, and at which place: the first is one of the POU's names, and each
-- that follows one of the block of the instance before it, whose cells are counted from the instance's place on.
pub data StandsFor (f : FileData) (k : ℕ) : List ℕ → ℕ → Member → Type 0 where
  own : (text : List ℕ) (m : Member) → member_at f (sizes_of f) k text ≡ Some m → StandsFor f k text m.cell m
  behind : (path : List ℕ) (place : ℕ) (m : Member) (b : ℕ) (text : List ℕ) (n : Member) → StandsFor f k path place m → m.block ≡ Some b
      → member_at f (sizes_of f) b text ≡ Some n → StandsFor f k (path ++ codes "." ++ text) (place + n.cell) n

-- The paths of the cells of what names stand for: of a step that it is active, and that it was where the run before this one started; of an
-- action that it is stored; and the names themselves of any other variable that has a cell and is no instance.
abbrev pub paths_behind : List ℕ → Member → List (List ℕ)
paths_behind path m =
    if is_step m.role then (path ++ codes ".X") ∷ (path ++ codes ".L") ∷ []
    else (if is_stored_action m.role then (path ++ codes ".S") ∷ [] else (if has_cell m.role && not (is_some m.block) then path ∷ [] else []))

-- a cell at a place, by its path, its type and its range
pub record IsCellAt (cells : List CellData) (place : ℕ) (path : List ℕ) (kind : DataType) (range : Range) : Type 0 where
  pub cell : CellData
  pub there : slice_get cells place ≡ Some cell
  pub named : cell.path ≡ path
  pub typed : cell.kind ≡ kind
  pub ranged : cell.range ≡ range

-- from a place on stand cells of these paths
abbrev pub HasPaths : List CellData → List ℕ → ℕ → Member → Type 0
HasPaths cells path place m = (n : ℕ) (q : List ℕ) → slice_get (paths_behind path m) n ≡ Some q → IsCellAt cells (place + n) q m.meaning.kind m.meaning.range
