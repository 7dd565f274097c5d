use Rattle.std.proofs.Common.{ℕ, ◌<◌, get_or}
use Rattle.watched_propagation.specs.Watching.{clause_in, Meets}
use Rattle.watched_propagation.proofs.closed.are_satisfied.Given as goal

abbrev pub invariant-loop-place : goal.invariant-loop-place
invariant-loop-place l = (i : ℕ) → i < l.place-index → Meets (clause_in l.arena (get_or l.places i 0)) l.trail.literals
