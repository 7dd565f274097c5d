use Rattle.std.proofs.Common.{◌≡◌, ◌+◌, drop}
use Rattle.query_formulas.specs.CellShapes.{bits_of}
use Rattle.pair_circuits.proofs.free.count_bits.Given as goal

abbrev pub invariant-loop-cell : goal.invariant-loop-cell
invariant-loop-cell l = l.bits + bits_of (drop l.cell-index l.cells) ≡ bits_of l.cells
