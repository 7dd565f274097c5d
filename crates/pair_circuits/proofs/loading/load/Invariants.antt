use Rattle.std.proofs.Common.{◌≡◌, drop}
use Rattle.node_circuits.specs.NodeWords.{words_view}
use Rattle.pair_circuits.specs.Views.{pair_view}
use Rattle.query_formulas.specs.PairWords.{loaded_words}
use Rattle.pair_circuits.proofs.loading.load.Given as goal

abbrev pub invariant-loop-i : goal.invariant-loop-i
invariant-loop-i l = loaded_words (drop l.i l.lines) (words_view (drop l.i l.words)) (pair_view l.pair) ≡ loaded_words l.lines (words_view l.words) (pair_view l.initial.pair)
