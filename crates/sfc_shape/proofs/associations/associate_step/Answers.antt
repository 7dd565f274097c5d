use Rattle.std.proofs.Common.{take, arith}
use Rattle.source_tree.specs.SyntaxView.{step_action_view, step_actions_view}
use Rattle.sfc_shape.specs.ShapeView.{listed}
use Rattle.sfc_shape.proofs.Steps.{view-take}
use Rattle.sfc_shape.proofs.AssociationSteps.{associated-push}
use Rattle.sfc_shape.proofs.associations.associate_step.Goals as goal

pub loop-action-preserved : goal.loop-action-preserved
loop-action-preserved c = λ text.
    let i = c.loop-action.action-index in
    let more = view-take step_action_view c.args.actions.now i c.action-item.result (omega arith) c.action-item.is in
    let before = step_actions_view (take i c.args.actions.now) in
    rw more (associated-push text c.args.step before (step_action_view c.action-item.result) (listed c.args.associations.now text) _ _ (c.loop-action.invariant text) (c.in_ok-associate.ensures text))
