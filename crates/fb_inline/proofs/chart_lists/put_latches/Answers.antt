use Rattle.std.proofs.Common.{subst, sym}
use Rattle.std.specs.Prelude.{IfSome}
use Rattle.program_tree.specs.declared.typed.TypedAction.{TypedAction}
use Rattle.program_tree.specs.View.{action_view}
use Rattle.flat_charts.specs.Views.{HasPlace}
use Rattle.fb_inline.proofs.TypedLemmas.{latch-placed}
use Rattle.fb_inline.proofs.chart_lists.put_latches.Goals as goal

pub put_latch-requires-clause-latch : goal.put_latch-requires-clause-latch
put_latch-requires-clause-latch c =
    let base = c.args.scope.now.base in
    subst (λ (a : TypedAction). IfSome (action_view a).0 (HasPlace base)) (sym c.action-item.is)
    (latch-placed (HasPlace base) c.args.actions.now c.loop-action.action-index c.action-item.result c.loop-action-test.true c.requires.latches)
