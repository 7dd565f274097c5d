use Rattle.scan_model.specs.Pairs.{relation_view}
use Rattle.line_trials.proofs.HeldLemmas.{one_holds}
use Rattle.line_trials.proofs.held.candidates_hold.Goals as goal

pub loop-offset-preserved : goal.loop-offset-preserved
loop-offset-preserved c =
    one_holds (relation_view c.args.duo.now.relation) c.args.first c.args.count c.loop-offset.offset c.args.duo.now.pair _ c.holds.result c.loop-offset-test.true c.loop-offset.invariant c.holds.ensures c.if-not-holds.false
