-- The cells of POUs, by what is told of their declarations.
use Rattle.std.specs.Prelude.{ℕ, ◌==◌, List, [], ◌∷◌, ◌++◌, map, filter, codes, Bool, not, ◌&&◌, ◌||◌, Option, Some, None, is_some, if◌then◌else◌, pos}
use Rattle.program_tree.specs.Tree.{CellData}
use Rattle.naming.specs.declared.role.Role.{Role}
use Rattle.naming.specs.Scopes.{is_step}
use Rattle.typing.specs.Places.{has_cell, is_stored_action, is_front, size_among}
use Rattle.typing.specs.TypedPrograms.{part_in, path_of, path_behind, flag_cell, active_first, is_constant}
use Rattle.decl_types.specs.Told.{ToldData}
use Rattle.st_types.specs.declared.cells.Walk.{Walk}

abbrev pub told_cell_for : Bool → Option (List ℕ) → ToldData → CellData
told_cell_for inside before t = record {
  path = path_of before t.name.text;
  part = part_in inside t.role;
  kind = t.domain.kind;
  range = t.domain.range;
  is_subrange = t.domain.is_subrange;
  initial = t.initial;
}

-- the cells of a name that is no instance
abbrev pub told_cells_for : Bool → Option (List ℕ) → ToldData → List CellData
told_cells_for inside before t =
    if is_step t.role then flag_cell before t.name (codes "X") (active_first t.role) ∷ flag_cell before t.name (codes "L") (pos 0) ∷ []
    else (if is_stored_action t.role then flag_cell before t.name (codes "S") (pos 0) ∷ [] else told_cell_for inside before t ∷ [])

-- those of a name, where those of the blocks of instances are known, and blocks have these sizes; a block that has none is not looked at
abbrev pub told_cells_of_variable : List ℕ → (Option (List ℕ) → ℕ → List CellData) → Bool → Option (List ℕ) → ToldData → Option ℕ → List CellData
told_cells_of_variable sizes of_block inside before t None = told_cells_for inside before t
told_cells_of_variable sizes of_block inside before t (Some b) = if size_among sizes (Some b) == 0 then [] else of_block (path_behind before t.name) b

-- whether a walk writes the cells of a name: of those that stand in front, or of the others
abbrev pub is_written : Walk → Role → Bool
is_written walk role = (if walk.in_front then is_front walk.of_function role else not (is_front walk.of_function role)) && has_cell role

-- the cells of the names that a walk writes, in declared order
abbrev pub told_cells_of : List ℕ → (Option (List ℕ) → ℕ → List CellData) → Walk → Option (List ℕ) → List ToldData → List CellData
told_cells_of sizes of_block walk before [] = []
told_cells_of sizes of_block walk before (t ∷ ts) =
    (if is_written walk t.role then told_cells_of_variable sizes of_block walk.inside before t t.block else []) ++ told_cells_of sizes of_block walk before ts

-- constants and instances
abbrev pub is_told_without_cell : ToldData → Bool
is_told_without_cell t = is_constant t.role || is_some t.block

abbrev pub told_without_cell : List ToldData → List (List ℕ)
told_without_cell ts = map (λ t. t.name.text) (filter is_told_without_cell ts)
