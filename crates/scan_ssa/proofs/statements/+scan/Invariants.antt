use Rattle.std.proofs.Common.{◌≡◌, List, length, drop}
use Rattle.flat_core.specs.FlatTree.{FlatStatement}
use Rattle.flat_core.specs.FlatView.{flats_view, flat_arms_view, flats_of, nested}
use Rattle.node_core.specs.Stores.{store_of_all}
use Rattle.scan_ssa.specs.Making.{list_view}
use Rattle.scan_ssa.specs.Trails.{Keeps}
use Rattle.scan_ssa.specs.OpenArms.{open_views, AreMarks, closed}
use Rattle.scan_ssa.proofs.statements.+scan.Given as goal

-- what is left to do gives the whole

abbrev pub invariant-run_all-loop-stmt : goal.invariant-run_all-loop-stmt
invariant-run_all-loop-stmt l = record {
  rest : store_of_all l.places (flats_of (flats_view (drop l.stmt-index l.list))) l.trail.store.items (list_view l.making) ≡ store_of_all l.places (flats_of (flats_view l.list)) l.initial.trail.store.items (list_view l.initial.making);
  kept : Keeps (length l.initial.trail.log.items) l.initial.trail l.trail;
  limit : l.making.limit ≡ l.initial.making.limit;
}

abbrev pub invariant-open_arms-loop-arm : goal.invariant-open_arms-loop-arm
invariant-open_arms-loop-arm l = record {
  rest : (rest : List FlatStatement) → closed l.places (open_views l.trail l.sides.items) (store_of_all l.places (flats_of (nested (flat_arms_view (drop l.arm-index l.arms)) rest)) l.trail.store.items (list_view l.making))
      ≡ store_of_all l.places (flats_of (nested (flat_arms_view l.arms) rest)) l.initial.trail.store.items (list_view l.initial.making);
  marks : AreMarks (length l.initial.trail.log.items) l.sides.items (length l.trail.log.items);
  kept : Keeps (length l.initial.trail.log.items) l.initial.trail l.trail;
  limit : l.making.limit ≡ l.initial.making.limit;
}
