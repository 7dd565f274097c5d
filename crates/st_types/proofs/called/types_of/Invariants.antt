use Rattle.std.proofs.Common.{◌≡◌, ◌++◌, map, drop}
use Rattle.program_tree.specs.View.{cells_view}
use Rattle.typing.specs.TypedPrograms.{type_of_cell}
use Rattle.st_types.proofs.called.types_of.Given as goal

abbrev pub invariant-loop-cell : goal.invariant-loop-cell
invariant-loop-cell l =
    l.list.items ++ map type_of_cell (cells_view (drop l.cell-index l.cells)) ≡ map type_of_cell (cells_view l.cells)
