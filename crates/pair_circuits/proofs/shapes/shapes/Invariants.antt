use Rattle.std.proofs.Common.{◌≡◌, ◌++◌, drop}
use Rattle.program_tree.specs.View.{cells_view}
use Rattle.query_formulas.specs.CellShapes.{shapes_of}
use Rattle.pair_circuits.proofs.shapes.shapes.Given as goal

abbrev pub invariant-loop-cell : goal.invariant-loop-cell
invariant-loop-cell l = l.all.items ++ shapes_of (cells_view (drop l.cell-index l.cells)) ≡ shapes_of (cells_view l.cells)
