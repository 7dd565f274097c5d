use Rattle.std.proofs.Common.{◌≡◌, ◌*◌}
use Rattle.query_formulas.specs.CellShapes.{bits_of}
use Rattle.pair_circuits.proofs.breaks.free_bits.Given as goal

abbrev pub invariant-loop-scan : goal.invariant-loop-scan
invariant-loop-scan l = l.free ≡ l._scan * bits_of l.parts.lines.items
