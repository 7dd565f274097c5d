use Rattle.std.proofs.Common.{◌≡◌, ◌+◌, ◌++◌, drop}
use Rattle.node_circuits.specs.NodeWords.{words_view}
use Rattle.query_formulas.specs.CellShapes.{bits_of}
use Rattle.query_formulas.specs.PairWords.{free_words}
use Rattle.pair_circuits.proofs.free.free_words.Given as goal

abbrev pub invariant-loop-cell : goal.invariant-loop-cell
invariant-loop-cell l = record {
  bits : l.next + bits_of (drop l.cell-index l.cells) ≡ l.first + bits_of l.cells;
  words : words_view l.words.items ++ free_words l.next (drop l.cell-index l.cells) ≡ free_words l.first l.cells;
}
