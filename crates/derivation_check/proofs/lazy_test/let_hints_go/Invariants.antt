use Rattle.std.proofs.Common.{◌≡◌}
use Rattle.derivation_check.proofs.lazy_test.let_hints_go.Given as goal

abbrev pub invariant-loop-number : goal.invariant-loop-number
invariant-loop-number l = l.propagator ≡ l.fn.propagator
