use Rattle.std.proofs.Common.{◌≡◌, ◌++◌, drop}
use Rattle.node_circuits.specs.NodeWords.{words_view}
use Rattle.pair_circuits.proofs.pair.add_copies.Given as goal

abbrev pub invariant-loop-word : goal.invariant-loop-word
invariant-loop-word l = words_view l.words.items ++ words_view (drop l.word-index l.more) ≡ words_view l.initial.words.items ++ words_view l.more
