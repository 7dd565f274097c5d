use Rattle.std.proofs.Common.{◌≡◌, ◌≤◌, length, take}
use Rattle.scan_ssa.specs.Trails.{with_changes, Keeps}
use Rattle.scan_ssa.proofs.merging.make_changes.Given as goal

abbrev pub invariant-loop-left : goal.invariant-loop-left
invariant-loop-left l = record {
  left : l.left ≤ length l.changes;
  store : with_changes (take l.left l.changes) l.trail.store.items ≡ with_changes l.changes l.initial.trail.store.items;
  kept : Keeps (length l.initial.trail.log.items) l.initial.trail l.trail;
}

abbrev pub decreases-loop-left : goal.decreases-loop-left
decreases-loop-left l = l.left
