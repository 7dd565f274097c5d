use Rattle.pair_circuits.specs.Views.{scan_lits_view}
use Rattle.product_build.specs.Counts.{IsRowInside}
use Rattle.product_build.proofs.Turns.{next_view, inside_here, inside_rest, walk_turn}
use Rattle.product_build.proofs.scans.add_rows.Goals as goal

pub add_row-requires-clause-outside : goal.add_row-requires-clause-outside
add_row-requires-clause-outside c =
    let l = c.loop-scan in
    let is = next_view c.args.scans.now l.scan-index c.scan-item.result c.loop-scan-test.true c.scan-item.is in
    (inside_here IsRowInside l.formula.variables _ _ _ is l.invariant.scans).outside

pub add_row-requires-clause-environment : goal.add_row-requires-clause-environment
add_row-requires-clause-environment c =
    let l = c.loop-scan in
    let is = next_view c.args.scans.now l.scan-index c.scan-item.result c.loop-scan-test.true c.scan-item.is in
    (inside_here IsRowInside l.formula.variables _ _ _ is l.invariant.scans).environment

pub loop-scan-preserved : goal.loop-scan-preserved
loop-scan-preserved c =
    let l = c.loop-scan in
    let is = next_view c.args.scans.now l.scan-index c.scan-item.result c.loop-scan-test.true c.scan-item.is in
    record {
      scans = inside_rest IsRowInside l.formula c.add_row.new.formula _ c.in_ok-add_row.ensures _ _ _ is l.invariant.scans;
      same = walk_turn l.formula c.add_row.new.formula _ (scan_lits_view c.scan-item.result) _ _ c.in_ok-add_row.ensures is l.invariant.same;
    }
