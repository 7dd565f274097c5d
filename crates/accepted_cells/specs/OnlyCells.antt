-- The cells of a program by the names and the paths of its text.
use Rattle.std.specs.Prelude.{◌≡◌, ℕ, ◌+◌, List, ◌∷◌, length, codes, Some, slice_get}
use Rattle.plc_types.specs.declared.data_type.DataType.{DataType}
use Rattle.plc_types.specs.declared.range.Range.{Range}
use Rattle.plc_types.specs.Enumerations.{paired_type}
use Rattle.source_tree.specs.Syntax.{Named, PathData, FileData}
use Rattle.program_tree.specs.Tree.{CellData, ProgramData}
use Rattle.typing.specs.declared.member.Member.{Member}
use Rattle.typing.specs.declared.scope.Meaning.{Meaning}
use Rattle.typing.specs.Typing.{by_path}
use Rattle.typing.specs.Programs.{joined, own_type, pair_means}
use Rattle.candidates.specs.ByPath.{placed, cell_named}
use Rattle.found_cells.specs.cell_paths.Paths.{StandsFor, paths_behind}
use Rattle.found_cells.specs.Clauses.{of_program, in_clause}

-- At a place stands the cell of a path, of a type and a range. The look-up by the path finds it, and no other cell has the path.
pub record IsOnlyCell (cells : List CellData) (place : ℕ) (path : List ℕ) (kind : DataType) (range : Range) : Type 0 where
  pub cell : CellData
  pub there : slice_get cells place ≡ Some cell
  pub named : cell.path ≡ path
  pub typed : cell.kind ≡ kind
  pub ranged : cell.range ≡ range
  pub found : cell_named path cells ≡ Some (placed place cell)
  pub only : (other : ℕ) (c : CellData) → slice_get cells other ≡ Some c → c.path ≡ path → other ≡ place

-- The cells of each name of a PROGRAM, and of each name behind the names of instances in instances, stand at the name's place, with its path, its
-- type and its range. Typing gives the place.
abbrev pub HasCellsOfNames : FileData → ℕ → List CellData → Type 0
HasCellsOfNames f k cells = (path : List ℕ) (place : ℕ) (m : Member) → StandsFor f k path place m → (n : ℕ) (q : List ℕ) → slice_get (paths_behind path m) n ≡ Some q
    → IsOnlyCell cells (place + n) q m.meaning.kind m.meaning.range

-- A path of a program stands for the cell at a place, which is the only one of that path. So it does in clauses: behind `old`, where the program is
-- OLD, whatever NEW is; and behind `new`, where it is NEW, whose cells stand behind those of OLD.
pub record StandsForCell (p : ProgramData) (q : PathData) (place : ℕ) (m : Meaning) : Type 0 where
  pub only : IsOnlyCell p.cells place (joined (q.first ∷ q.members)) m.kind m.range
  pub as_old : (new : ProgramData) (n : Named) → n.text ≡ codes "OLD" → pair_means p new (by_path (of_program n q)) ≡ Some (in_clause own_type place m)
  pub as_new : (old : ProgramData) (n : Named) → n.text ≡ codes "NEW" → pair_means old p (by_path (of_program n q)) ≡ Some (in_clause (paired_type old.types p.types) (length old.cells + place) m)
