-- Cells by their paths.
use Rattle.std.specs.Prelude.{ℕ, List, Bool, Option, option_map, option_and_then, slice_get}
use Rattle.std.specs.List.{list_any}
use Rattle.std.specs.Str.{bytes_eq}
use denote.Ref.{Bor}
use Rattle.program_tree.specs.declared.typed.Cell.{Cell}
use Rattle.program_tree.specs.Tree.{CellData}
use Rattle.program_tree.specs.View.{cell_view}
use Rattle.clause_types.specs.PlacesByPath.{place_by_path}

-- a cell with its place
abbrev pub placed : ℕ → CellData → ℕ × CellData
placed place c = (place, c)

abbrev pub placed_at : List CellData → ℕ → Option (ℕ × CellData)
placed_at cells place = option_map (placed place) (slice_get cells place)

-- the first cell of a path, with its place
abbrev pub cell_named : List ℕ → List CellData → Option (ℕ × CellData)
cell_named text cells = option_and_then (placed_at cells) (place_by_path text cells)

-- a cell that was found, with its place
abbrev pub found_view : Option (ℕ × Bor Cell) → Option (ℕ × CellData)
found_view found = option_map (λ f. placed f.0 (cell_view f.1.now)) found

-- a name stands among names
abbrev pub is_among : List (List ℕ) → List ℕ → Bool
is_among names text = list_any (λ name. bytes_eq name text) names
