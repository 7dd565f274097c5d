use Rattle.std.proofs.Common.{◌≡◌, ◌++◌, drop}
use Rattle.query_formulas.specs.Decoded.{first_state}
use Rattle.pair_decoding.proofs.states.first_state.Given as goal

abbrev pub invariant-loop-cell : goal.invariant-loop-cell
invariant-loop-cell l = l.numbers.items ++ first_state (drop l.cell-index l.cells) ≡ first_state l.cells
