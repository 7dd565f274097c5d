use Rattle.std.proofs.Common.{◌≡◌, ◌+◌, ◌-◌, ◌∙◌, arith, ap, refl, take}
use Rattle.scan_ssa.specs.Trails.{with_changes}
use Rattle.scan_ssa.proofs.TrailLemmas.{made_one, keeps_both}
use Rattle.scan_ssa.proofs.merging.make_changes.Goals as goal

pub loop-left-preserved : goal.loop-left-preserved
loop-left-preserved c =
    let left = c.loop-left.left in
    let again : left - 1 + 1 ≡ left = omega arith in
    record {
      left = omega arith;
      store = made_one (left - 1) c.args.changes.now c.loop-left.trail.store.items c.set_place.new.trail.store.items _ _ _ (omega arith) refl c.in_ok-set_place.ensures.store
          (ap (λ n. with_changes (take n c.args.changes.now) c.loop-left.trail.store.items) again ∙ c.loop-left.invariant.store);
      kept = keeps_both _ _ c.args.trail.now c.loop-left.trail c.set_place.new.trail c.loop-left.invariant.kept.longer c.loop-left.invariant.kept c.in_ok-set_place.ensures.kept;
    }
