use Rattle.std.proofs.Common.{◌≡◌, ◌++◌, ℕ, List, take}
use Rattle.source_tree.specs.SyntaxView.{step_actions_view}
use Rattle.sfc_shape.specs.Shapes.{associated}
use Rattle.sfc_shape.specs.ShapeView.{listed}
use Rattle.sfc_shape.proofs.associations.associate_step.Given as goal

abbrev pub invariant-loop-action : goal.invariant-loop-action
invariant-loop-action l = (text : List ℕ) → listed l.associations text ≡ listed l.fn.associations text ++ associated text l.step (step_actions_view (take l.action-index l.actions))
