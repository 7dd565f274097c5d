use Rattle.std.proofs.Common.{◌≡◌, ◌++◌, drop, map}
use Rattle.node_core.specs.Words.{word_at}
use Rattle.scan_ssa.proofs.merging.words_at.Given as goal

abbrev pub invariant-loop-place : goal.invariant-loop-place
invariant-loop-place l = l.words.items ++ map (word_at l.store) (drop l.place-index l.touched) ≡ map (word_at l.store) l.touched
