use Rattle.std.proofs.Common.{◌≡◌, length}
use Rattle.watched_propagation.specs.Watching.{IsWatching, KeepsLasting, KeepsWatched}
use Rattle.watched_propagation.proofs.visit.propagate.Given as goal

abbrev pub invariant-loop : goal.invariant-loop
invariant-loop l = record {
  watching : IsWatching l.arena l.pairs l.lists l.trail;
  lasting : KeepsLasting l.initial.trail l.trail;
  size : length l.trail.values ≡ length l.initial.trail.values;
  kept : KeepsWatched l.initial.pairs l.pairs;
}
