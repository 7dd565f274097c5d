use Rattle.std.proofs.Common.{◌≡◌, ◌++◌, drop, map}
use Rattle.node_circuits.specs.NodeWords.{words_view, word_in}
use Rattle.pair_circuits.proofs.scans.words_at.Given as goal

abbrev pub invariant-loop-number : goal.invariant-loop-number
invariant-loop-number l = words_view l.found.items ++ map (word_in (words_view l.words)) (drop l.number-index l.numbers) ≡ map (word_in (words_view l.words)) l.numbers
