use Rattle.std.proofs.Common.{◌≡◌, drop}
use Rattle.outside.specs.Failures.{failure_of}
use Rattle.outside.proofs.failures.find_failure.Given as goal

abbrev pub invariant-loop-failure : goal.invariant-loop-failure
invariant-loop-failure l = failure_of l.failures l.call l.number ≡ failure_of (drop l.failure-index l.failures) l.call l.number
