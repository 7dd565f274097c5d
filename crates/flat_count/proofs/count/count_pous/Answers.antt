use Rattle.std.proofs.Common.{◌∷◌, [], length, length-append, slice_index_or, arith, ap, sym, ◌∙◌}
use Rattle.program_tree.specs.View.{called_view, all_called_view}
use Rattle.meaning.specs.Calls.{nothing}
use Rattle.meaning.proofs.Callees.{at-number}
use Rattle.meaning.specs.Frames.{function_body}
use Rattle.flat_form.specs.Pous.{block_body}
use Rattle.flat_count.specs.Counts.{counting}
use Rattle.flat_count.proofs.CountLemmas.{counts-more, counts-all, body-counted, counting-same}
use Rattle.flat_count.proofs.count.count_pous.Goals as goal

pub loop-callee-preserved : goal.loop-callee-preserved
loop-callee-preserved c =
    let runs = c.loop-callee.runs.items in
    let bodies = c.loop-callee.bodies.items in
    let ps = all_called_view c.args.called.now in
    let i = c.loop-callee.callee-index in
    let callee = c.callee-item.result in
    let is = at-number c.args.called.now i callee (called_view callee) c.loop-callee-test.true (ap called_view (sym c.callee-item.is)) in
    let known = counting-same ps _ runs _ bodies c.deref.ensures.value c.deref-in-loop-callee.ensures.value in
    let run = body-counted c.count_run-run.result _ (counting ps runs bodies) _ (block_body (slice_index_or ps i nothing)) c.count_run-run.ensures known (ap block_body (sym is)) in
    let body = body-counted c.count_body-body.result _ (counting ps runs bodies) _ (function_body (slice_index_or ps i nothing)) c.count_body-body.ensures known (ap function_body (sym is)) in
    record {
      long_runs = ap length c.in_ok-push.ensures.items ∙ length-append runs (c.count_run-run.result ∷ []) ∙ omega arith;
      long_bodies = ap length c.in_ok-push-2.ensures.items ∙ length-append bodies (c.count_body-body.result ∷ []) ∙ omega arith;
      first = counts-more runs bodies _ _ ps i c.count_run-run.result c.count_body-body.result c.loop-callee.invariant.long_runs c.loop-callee.invariant.long_bodies c.in_ok-push.ensures.items c.in_ok-push-2.ensures.items c.loop-callee.invariant.first run body;
    }

pub returns : goal.returns
returns c = counts-all _ _ c.args.called.now c.loop-callee.callee-index (omega arith) c.loop-callee.invariant.first
