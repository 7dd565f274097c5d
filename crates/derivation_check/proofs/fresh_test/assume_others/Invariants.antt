use Rattle.std.proofs.Common.{◌≡◌, length}
use Rattle.derivation_check.proofs.fresh_test.assume_others.Given as goal

abbrev pub invariant-loop-index : goal.invariant-loop-index
invariant-loop-index l = record {
  held : l.propagator.held ≡ l.fn.propagator.held;
  size : length l.propagator.values ≡ length l.fn.propagator.values;
}
