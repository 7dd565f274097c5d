use Rattle.std.proofs.Common.{◌≡◌, length}
use Rattle.derivation_check.proofs.fresh_test.make_false.Given as goal

abbrev pub invariant-loop-literal : goal.invariant-loop-literal
invariant-loop-literal l = record {
  held : l.propagator.held ≡ l.fn.propagator.held;
  size : length l.propagator.values ≡ length l.fn.propagator.values;
}
