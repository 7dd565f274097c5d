use Rattle.cdcl_watch.specs.Kept.{Keeps}
use Rattle.cdcl_watch.proofs.following.Following.derive.Given as goal

abbrev pub invariant-loop : goal.invariant-loop
invariant-loop l = Keeps l.fn.propagator l.propagator
