use Rattle.cdcl_watch.specs.Kept.{Keeps}
use Rattle.cdcl_watch.proofs.watch_search.decide.Given as goal

abbrev pub invariant-loop : goal.invariant-loop
invariant-loop l = Keeps l.fn.propagator l.propagator
