use Rattle.std.proofs.Common.{◌≡◌, ◌++◌, map, drop}
use Rattle.program_tree.specs.View.{texts_view}
use Rattle.decl_types.specs.ToldView.{told_view}
use Rattle.st_types.specs.ToldCells.{told_without_cell}
use Rattle.st_types.proofs.cells.told_without_cell.Given as goal

abbrev pub invariant-loop-told : goal.invariant-loop-told
invariant-loop-told l =
    texts_view l.list.items ++ told_without_cell (map told_view (drop l.told-index l.variables)) ≡ told_without_cell (map told_view l.variables)
