-- Where the charts of a POU and of its instances stand among its cells, in the order of the cells (IEC 61131-3, 2.6.2).
use Rattle.std.specs.Prelude.{ℕ, zero, suc, ◌+◌, ◌==◌, List, [], ◌∷◌, ◌++◌, length, count_by, false, Option, Some, None, if◌then◌else◌}
use Rattle.program_tree.specs.declared.typed.ChartCells.{ChartCells}
use Rattle.source_tree.specs.Syntax.{FileData}
use Rattle.naming.specs.FileScope.{pous_of}
use Rattle.naming.specs.Scopes.{Variable, is_step, block_of}
use Rattle.typing.specs.Places.{size_among, sizes_of, cells_taken, in_order, variables_at}

-- how many of some names are steps
abbrev pub steps_among : List Variable → ℕ
steps_among vs = count_by (λ v. is_step v.role) vs

-- those of an instance whose cells begin at a place, where those of blocks are known; a block that has no cells is not looked at
abbrev pub charts_of_variable : FileData → (ℕ → ℕ → List ChartCells) → ℕ → Option ℕ → List ChartCells
charts_of_variable f of_block place None = []
charts_of_variable f of_block place (Some b) = if size_among (sizes_of f) (Some b) == 0 then [] else of_block place b

-- Those of names in the order of their cells, which begin at a place: those of instances, and last the POU's own, which begins at its
-- first step, since nothing but steps and actions stands behind it.
abbrev pub charts_of : FileData → (ℕ → ℕ → List ChartCells) → ℕ → List Variable → List ChartCells
charts_of f of_block place [] = []
charts_of f of_block place (v ∷ vs) =
    if is_step v.role then record { first = place; steps = steps_among (v ∷ vs) } ∷ []
    else charts_of_variable f of_block place (block_of f v) ++ charts_of f of_block (place + cells_taken f (sizes_of f) v) vs

-- those of an instance of a block, where instances stand in one another so many times at most
abbrev pub block_charts : FileData → ℕ → ℕ → ℕ → List ChartCells
block_charts f zero place b = []
block_charts f (suc depth) place b = charts_of f (block_charts f depth) place (in_order false (variables_at f b))

-- those of a PROGRAM, whose cells begin behind FAULT
abbrev pub charts_in : FileData → List Variable → List ChartCells
charts_in f vs = charts_of f (block_charts f (length (pous_of f))) 1 (in_order false vs)
