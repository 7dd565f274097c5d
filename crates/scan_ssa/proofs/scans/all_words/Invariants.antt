use Rattle.std.proofs.Common.{◌≡◌, ◌++◌, drop}
use Rattle.node_core.specs.Scans.{words_in}
use Rattle.scan_ssa.proofs.scans.all_words.Given as goal

abbrev pub invariant-loop-word : goal.invariant-loop-word
invariant-loop-word l = l.words.items ++ words_in (drop l.word-index l.store) ≡ words_in l.store
