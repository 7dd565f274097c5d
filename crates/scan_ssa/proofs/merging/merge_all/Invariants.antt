use Rattle.std.proofs.Common.{◌≡◌, length, drop}
use Rattle.scan_ssa.specs.Making.{list_view}
use Rattle.scan_ssa.specs.Merging.{merge_all}
use Rattle.scan_ssa.specs.Trails.{Keeps}
use Rattle.scan_ssa.proofs.merging.merge_all.Given as goal

abbrev pub invariant-loop-i : goal.invariant-loop-i
invariant-loop-i l = record {
  rest : merge_all l.places l.condition (drop l.i l.touched) (drop l.i l.on) (drop l.i l.off) l.trail.store.items (list_view l.making) ≡ merge_all l.places l.condition l.touched l.on l.off l.initial.trail.store.items (list_view l.initial.making);
  kept : Keeps (length l.initial.trail.log.items) l.initial.trail l.trail;
  limit : l.making.limit ≡ l.initial.making.limit;
}
