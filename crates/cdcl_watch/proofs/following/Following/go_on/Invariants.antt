use Rattle.cdcl_watch.specs.Kept.{Keeps}
use Rattle.cdcl_watch.proofs.following.Following.go_on.Given as goal

abbrev pub invariant-loop-place : goal.invariant-loop-place
invariant-loop-place l = Keeps l.fn.propagator l.propagator
