use Rattle.std.proofs.Common.{◌≡◌, ◌++◌, drop}
use Rattle.node_circuits.specs.NodeWords.{words_view}
use Rattle.query_formulas.specs.PairWords.{initial_words}
use Rattle.pair_circuits.proofs.initial.initial_words.Given as goal

abbrev pub invariant-loop-cell : goal.invariant-loop-cell
invariant-loop-cell l = words_view l.words.items ++ initial_words (drop l.cell-index l.cells) ≡ initial_words l.cells
