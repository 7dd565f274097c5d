use Rattle.std.proofs.Common.{◌≡◌, ◌++◌, ◌-◌, length}
use Rattle.word_circuits.specs.Words.{constant_of}
use Rattle.word_circuits.proofs.words.constant.Given as goal

abbrev pub invariant-loop-i : goal.invariant-loop-i
invariant-loop-i l = record {
  len : length l.word.items ≡ l._i;
  word : l.word.items ++ constant_of (l.width - l._i) l.rest ≡ constant_of l.width l.value;
}
