use Rattle.std.proofs.Common.{◌≡◌, ◌++◌, drop, map}
use Rattle.program_tree.specs.View.{cells_view}
use Rattle.program_tree.specs.Places.{of_cell}
use Rattle.scan_ssa.proofs.places.places_of.Given as goal

abbrev pub invariant-loop-cell : goal.invariant-loop-cell
invariant-loop-cell l = l.places.items ++ map of_cell (cells_view (drop l.cell-index l.cells)) ≡ map of_cell (cells_view l.cells)
