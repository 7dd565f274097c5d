use Rattle.std.proofs.Common.{◌≡◌, take}
use Rattle.program_tree.specs.View.{cells_view}
use Rattle.fb_inline.proofs.program.copy_cells.Given as goal

abbrev pub invariant-loop-cell : goal.invariant-loop-cell
invariant-loop-cell l = cells_view l.copies.items ≡ cells_view (take l.cell-index l.cells)
