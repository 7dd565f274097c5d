use Rattle.std.proofs.Common.{◌≡◌, ◌++◌, drop}
use Rattle.source_tree.specs.SyntaxView.{parts_view}
use Rattle.sfc_shape.specs.Shapes.{actions_of}
use Rattle.sfc_shape.specs.ShapeView.{seen_actions}
use Rattle.sfc_shape.proofs.parts.actions.Given as goal

abbrev pub invariant-loop-part : goal.invariant-loop-part
invariant-loop-part l = seen_actions l.found.items ++ actions_of (parts_view (drop l.part-index l.parts)) ≡ actions_of (parts_view l.parts)
