use Rattle.std.proofs.Common.{◌≡◌, ◌+◌, length, take}
use Rattle.derivation_check.proofs.fresh_test.propagator_over.Given as goal

abbrev pub invariant-loop-clause : goal.invariant-loop-clause
invariant-loop-clause l = record {
  held : l.propagator.held ≡ take l.clause-index l.clauses;
  size : length l.propagator.values ≡ l.cnf.variables + 1;
}
