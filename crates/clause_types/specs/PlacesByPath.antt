-- Cells by their paths.
use Rattle.std.specs.Prelude.{ℕ, List, Option, Some, None, option_and_then}
use Rattle.program_tree.specs.Tree.{CellData, ProgramData}
use Rattle.typing.specs.declared.scope.Place.{Place}
use Rattle.typing.specs.declared.scope.Place.TheVariants as places
use Rattle.typing.specs.declared.scope.Meaning.{Meaning}
use Rattle.typing.specs.Programs.{own_type, cell_among}

-- the place of a cell that is meant
abbrev pub cell_at : Place → Option ℕ
cell_at (places.Cell place) = Some place
cell_at (places.Value value) = None

abbrev pub place_of : Option Meaning → Option ℕ
place_of o = option_and_then (λ m. cell_at m.place) o

-- the place of the first cell of a path, which is the cell that the path means in a clause
abbrev pub place_by_path : List ℕ → List CellData → Option ℕ
place_by_path text cells = place_of (cell_among own_type text 0 cells)

-- the same of each path in a program
abbrev pub places_by_path : ProgramData → List ℕ → Option ℕ
places_by_path p text = place_by_path text p.cells
