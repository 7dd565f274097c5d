use Rattle.std.proofs.Common.{◌≡◌, ◌+◌, ◌-◌, ◌++◌}
use Rattle.query_formulas.specs.PairWords.{free_word}
use Rattle.pair_circuits.proofs.free.free_word.Given as goal

abbrev pub invariant-loop-bit : goal.invariant-loop-bit
invariant-loop-bit l = record {
  next : l.next ≡ l.first + l._bit;
  word : l.word.items ++ free_word l.next (l.width - l._bit) ≡ free_word l.first l.width;
}
