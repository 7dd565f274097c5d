use Rattle.cdcl_watch.specs.Kept.{Keeps}
use Rattle.cdcl_watch.proofs.following.make_false.Given as goal

abbrev pub invariant-loop-place : goal.invariant-loop-place
invariant-loop-place l = Keeps l.fn.propagator l.propagator
