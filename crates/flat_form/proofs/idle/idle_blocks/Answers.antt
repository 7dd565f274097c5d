use Rattle.std.proofs.Common.{◌∷◌, [], length, length-append, arith, ap, sym, ◌∙◌}
use Rattle.program_tree.specs.View.{called_view, all_called_view}
use Rattle.meaning.proofs.Callees.{at-number}
use Rattle.flat_form.specs.Pous.{block_body}
use Rattle.flat_form.proofs.IdleTables.{idle-more}
use Rattle.flat_form.proofs.idle.idle_blocks.Goals as goal

pub loop-callee-preserved : goal.loop-callee-preserved
loop-callee-preserved c =
    let idle = c.loop-callee.idle.items in
    let i = c.loop-callee.callee-index in
    let callee = c.callee-item.result in
    let is = at-number c.args.called.now i callee (called_view callee) c.loop-callee-test.true (ap called_view (sym c.callee-item.is)) in
    record {
      long = ap length c.in_ok-push.ensures.items ∙ length-append idle (c.is_idle_pou-rests.result ∷ []) ∙ omega (arith, c.loop-callee.invariant.long);
      first = idle-more idle _ _ (all_called_view c.args.called.now) i c.is_idle_pou-rests.result (block_body (called_view callee)) c.loop-callee.invariant.long c.in_ok-push.ensures.items c.deref.ensures.value c.loop-callee.invariant.first
          c.is_idle_pou-rests.ensures (ap block_body (sym is));
    }
