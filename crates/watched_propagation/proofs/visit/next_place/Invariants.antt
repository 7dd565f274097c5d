use Rattle.std.proofs.Common.{ℕ, ◌<◌, ◌≤◌, ◌-◌, length}
use Rattle.std.specs.List.{Contains}
use Rattle.watched_propagation.specs.Watching.{watch_in}
use Rattle.watched_propagation.proofs.visit.next_place.Given as goal

abbrev pub invariant-loop-place : goal.invariant-loop-place
invariant-loop-place l = record {
  start : l.start ≤ l.place;
  passed : (i : ℕ) → l.start ≤ i → i < l.place → Contains l.trail.literals (watch_in l.list i).blocker;
}

abbrev pub decreases-loop-place : goal.decreases-loop-place
decreases-loop-place l = length l.list - l.place
