use Rattle.std.proofs.Common.{◌≡◌, ◌++◌, map, drop}
use Rattle.program_tree.specs.View.{cells_view}
use Rattle.st_types.proofs.called.ranges_of.Given as goal

abbrev pub invariant-loop-cell : goal.invariant-loop-cell
invariant-loop-cell l =
    l.list.items ++ map (λ c. c.range) (cells_view (drop l.cell-index l.cells)) ≡ map (λ c. c.range) (cells_view l.cells)
