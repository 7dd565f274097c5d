use Rattle.std.proofs.Common.{◌≡◌, ◌++◌, drop}
use Rattle.clause_core.specs.Satisfaction.{assigned}
use Rattle.node_circuits.specs.NodeWords.{words_view}
use Rattle.pair_decoding.specs.Widths.{AreWide}
use Rattle.query_formulas.specs.Decoded.{decoded_state}
use Rattle.pair_decoding.proofs.states.state.Given as goal

abbrev pub invariant-loop-i : goal.invariant-loop-i
invariant-loop-i l = record {
  wide : AreWide (drop l.i l.cells) (words_view (drop l.i l.words));
  numbers : l.numbers.items ++ decoded_state (drop l.i l.cells) (words_view (drop l.i l.words)) (assigned l.found) ≡ decoded_state l.cells (words_view l.words) (assigned l.found);
}
