use Rattle.std.proofs.Common.{◌≡◌, ◌+◌, ◌*◌, ◌++◌, map, drop}
use Rattle.std.specs.Prelude.{option_map}
use Rattle.program_tree.specs.View.{cells_view}
use Rattle.decl_types.specs.Bodies.{file_in}
use Rattle.decl_types.specs.ToldView.{told_view}
use Rattle.typing.specs.Places.{sizes_of}
use Rattle.typing.specs.TypedPrograms.{block_cells}
use Rattle.st_types.specs.ToldCells.{told_cells_of}
use Rattle.st_types.proofs.cells.+write_cells.Given as goal

abbrev pub invariant-write_variables-loop-told : goal.invariant-write_variables-loop-told
invariant-write_variables-loop-told l =
    cells_view l.list.items ++ told_cells_of (sizes_of (file_in l.placed.pous.domains)) (block_cells (file_in l.placed.pous.domains) l.depth) l.walk (option_map (λ b. b.now) l.before) (map told_view (drop l.told-index l.variables))
    ≡ cells_view l.initial.list.items ++ told_cells_of (sizes_of (file_in l.placed.pous.domains)) (block_cells (file_in l.placed.pous.domains) l.depth) l.walk (option_map (λ b. b.now) l.before) (map told_view l.variables)

abbrev pub decreases-write_block : goal.decreases-write_block
decreases-write_block l = 3 * l.depth

abbrev pub decreases-write_variables : goal.decreases-write_variables
decreases-write_variables l = 3 * l.depth + 2

abbrev pub decreases-write_variable : goal.decreases-write_variable
decreases-write_variable l = 3 * l.depth + 1
