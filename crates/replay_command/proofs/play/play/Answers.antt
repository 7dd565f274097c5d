use Rattle.std.proofs.Common.{arith}
use Rattle.command_answers.proofs.PutLemmas.{nothing_put}
use Rattle.replay_command.proofs.PlayLemmas.{are_related, are_still, step_run, row_related, row_unrelated, row_part, row_refused, on_err}
use Rattle.replay_command.proofs.play.play.Goals as goal

pub returns-in_err-put_scan-clause-part : goal.returns-in_err-put_scan-clause-part
returns-in_err-put_scan-clause-part g c =
    let run = step_run c.args.old.now c.args.new.now c.args.relation.now _ _ _ c.loop-done.done c.loop-done.duo c.allowed.new.self c.step.new.self c.args.rows.now c.row-row.result.now c.allowed.result
    c.loop-done.invariant.same c.loop-done.invariant.played c.row-row.ensures c.allowed.ensures.allowed c.if-not-allowed.false c.allowed.ensures.unchanged c.step.ensures.pair in
    on_err c.from_residual-in_err-put_scan.result _ (row_part _ _ _ _ _ _ _ _ _ _ run c.in_err-put_scan.ensures.part)

pub returns-then-not-allowed-clause-whole : goal.returns-then-not-allowed-clause-whole
returns-then-not-allowed-clause-whole g c =
    row_refused c.args.old.now c.args.new.now c.args.relation.now _ _ _ c.loop-done.done c.loop-done.duo c.args.rows.now c.row-row.result.now c.allowed.result
    c.loop-done.invariant.same c.loop-done.invariant.played c.row-row.ensures c.allowed.ensures.allowed c.if-not-allowed.true

pub returns-then-not-related-clause-whole : goal.returns-then-not-related-clause-whole
returns-then-not-related-clause-whole g c =
    let run = step_run c.args.old.now c.args.new.now c.args.relation.now _ _ _ c.loop-done.done c.loop-done.duo c.allowed.new.self c.step.new.self c.args.rows.now c.row-row.result.now c.allowed.result
    c.loop-done.invariant.same c.loop-done.invariant.played c.row-row.ensures c.allowed.ensures.allowed c.if-not-allowed.false c.allowed.ensures.unchanged c.step.ensures.pair in
    let still = are_still c.args.old.now c.args.new.now c.args.relation.now c.loop-done.duo c.allowed.new.self c.step.new.self _ c.loop-done.invariant.same c.allowed.ensures.unchanged c.step.ensures.pair in
    row_unrelated _ _ _ _ _ _ _ _ _ _ run c.in_ok-put_scan.ensures.whole (are_related c.args.old.now c.args.new.now c.args.relation.now c.step.new.self c.related.result _ still c.related.ensures c.if-not-related.true)

pub loop-done-preserved : goal.loop-done-preserved
loop-done-preserved g c =
    let run = step_run c.args.old.now c.args.new.now c.args.relation.now _ _ _ c.loop-done.done c.loop-done.duo c.allowed.new.self c.step.new.self c.args.rows.now c.row-row.result.now c.allowed.result
    c.loop-done.invariant.same c.loop-done.invariant.played c.row-row.ensures c.allowed.ensures.allowed c.if-not-allowed.false c.allowed.ensures.unchanged c.step.ensures.pair in
    let still = are_still c.args.old.now c.args.new.now c.args.relation.now c.loop-done.duo c.allowed.new.self c.step.new.self _ c.loop-done.invariant.same c.allowed.ensures.unchanged c.step.ensures.pair in
    record {
      same = still;
      played = row_related _ _ _ _ _ _ _ _ _ _ run c.in_ok-put_scan.ensures.whole (are_related c.args.old.now c.args.new.now c.args.relation.now c.step.new.self c.related.result _ still c.related.ensures c.if-not-related.false);
      later = omega (arith, c.loop-done.invariant.later, c.in_ok-put_scan.ensures.later);
      unfailed = c.in_ok-put_scan.ensures.unfailed;
    }

pub returns-in_err-duo-clause-part : goal.returns-in_err-duo-clause-part
returns-in_err-duo-clause-part g c = on_err c.from_residual.result _ (nothing_put _ _)
