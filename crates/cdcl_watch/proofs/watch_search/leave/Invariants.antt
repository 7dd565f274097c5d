use Rattle.cdcl_watch.specs.Kept.{Keeps}
use Rattle.cdcl_watch.proofs.watch_search.leave.Given as goal

abbrev pub invariant-loop-covered : goal.invariant-loop-covered
invariant-loop-covered l = Keeps l.fn.propagator l.propagator
