use Rattle.pair_circuits.specs.Views.{scan_lits_view}
use Rattle.product_build.specs.Counts.{AreLitsInside}
use Rattle.product_build.proofs.Turns.{next_view, inside_next, inside_rest, break_turn}
use Rattle.product_build.proofs.scans.add_break.Goals as goal

pub loop-next-preserved : goal.loop-next-preserved
loop-next-preserved c =
    let l = c.loop-next in
    let is = next_view c.args.others.now l.next-index c.next-item.result c.loop-next-test.true c.next-item.is in
    record {
      here = inside_next AreLitsInside l.formula c.add_related.new.formula _ c.in_ok-add_related.ensures _ _ _ is l.invariant.others;
      others = inside_rest AreLitsInside l.formula c.add_related.new.formula _ c.in_ok-add_related.ensures _ _ _ is l.invariant.others;
      same = break_turn l.formula c.add_related.new.formula _ (scan_lits_view l.scan.now) _ _ _ c.in_ok-add_related.ensures is l.invariant.same;
    }
