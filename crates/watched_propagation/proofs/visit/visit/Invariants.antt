use Rattle.std.proofs.Common.{◌-◌, length}
use Rattle.propagation_trail.specs.Trails.{Grown}
use Rattle.watched_propagation.specs.Watching.{list_in, KeepsWatched}
use Rattle.watched_propagation.specs.Visits.{IsVisiting}
use Rattle.watched_propagation.proofs.visit.visit.Given as goal

abbrev pub invariant-loop-turn : goal.invariant-loop-turn
invariant-loop-turn l = record {
  visiting : IsVisiting l.arena l.pairs l.lists l.trail l.falsified l.place;
  grown : Grown l.initial.trail l.trail;
  kept : KeepsWatched l.initial.pairs l.pairs;
}

abbrev pub decreases-loop-turn : goal.decreases-loop-turn
decreases-loop-turn l = length (list_in l.lists l.falsified) - l.place
