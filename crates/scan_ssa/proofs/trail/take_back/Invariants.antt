use Rattle.std.proofs.Common.{◌≡◌, ◌≤◌, length, take}
use Rattle.scan_ssa.specs.Trails.{with_changes, store_at}
use Rattle.scan_ssa.proofs.trail.take_back.Given as goal

abbrev pub invariant-loop-trail : goal.invariant-loop-trail
invariant-loop-trail l = record {
  below : l.mark ≤ length l.trail.log.items;
  front : l.trail.log.items ≡ take (length l.trail.log.items) l.initial.trail.log.items;
  store : store_at l.trail l.mark ≡ store_at l.initial.trail l.mark;
  changes : with_changes l.changes.items l.trail.store.items ≡ l.initial.trail.store.items;
}

abbrev pub decreases-loop-trail : goal.decreases-loop-trail
decreases-loop-trail l = length l.trail.log.items
