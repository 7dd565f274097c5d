-- Where the charts of a POU and of its instances stand among its cells, by what is told of its declarations.
use Rattle.std.specs.Prelude.{ℕ, ◌+◌, ◌==◌, max, List, [], ◌∷◌, ◌++◌, count_by, Option, Some, None, if◌then◌else◌}
use Rattle.program_tree.specs.declared.typed.ChartCells.{ChartCells}
use Rattle.naming.specs.Scopes.{is_step}
use Rattle.typing.specs.Places.{is_stored_action, size_among}
use Rattle.decl_types.specs.Told.{ToldData}
use Rattle.pou_cells.specs.ToldPlaces.{told_cells}

-- how many of some names are steps
abbrev pub told_steps : List ToldData → ℕ
told_steps ts = count_by (λ t. is_step t.role) ts

-- those of an instance whose cells begin at a place, where those of blocks are known, and blocks have these sizes
abbrev pub told_charts_of_variable : List ℕ → (ℕ → ℕ → List ChartCells) → ℕ → Option ℕ → List ChartCells
told_charts_of_variable sizes of_block place None = []
told_charts_of_variable sizes of_block place (Some b) = if size_among sizes (Some b) == 0 then [] else of_block place b

-- Those of names in declared order, whose cells begin at a place: those of instances, and last the POU's own, which begins at its first
-- step. Stored actions are passed over: their cells stand behind all others.
abbrev pub told_charts_of : List ℕ → (ℕ → ℕ → List ChartCells) → ℕ → List ToldData → List ChartCells
told_charts_of sizes of_block place [] = []
told_charts_of sizes of_block place (t ∷ ts) =
    if is_stored_action t.role then told_charts_of sizes of_block place ts
    else (if is_step t.role then record { first = place; steps = told_steps (t ∷ ts) } ∷ []
    else told_charts_of_variable sizes of_block place t.block ++ told_charts_of sizes of_block (place + told_cells sizes t) ts)

-- how many cells the block of an instance has; of what is no instance none are asked
abbrev pub told_block_cells : List ℕ → Option ℕ → ℕ
told_block_cells sizes None = 0
told_block_cells sizes (Some b) = size_among sizes (Some b)

-- how many cells names ask for: each its own, and an instance at least those of its block
abbrev pub told_room : List ℕ → List ToldData → ℕ
told_room sizes [] = 0
told_room sizes (t ∷ ts) = max (told_cells sizes t) (told_block_cells sizes t.block) + told_room sizes ts
