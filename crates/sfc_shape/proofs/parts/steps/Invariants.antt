use Rattle.std.proofs.Common.{◌≡◌, ◌++◌, drop}
use Rattle.source_tree.specs.SyntaxView.{parts_view}
use Rattle.sfc_shape.specs.Shapes.{steps_of}
use Rattle.sfc_shape.specs.ShapeView.{seen_steps}
use Rattle.sfc_shape.proofs.parts.steps.Given as goal

abbrev pub invariant-loop-part : goal.invariant-loop-part
invariant-loop-part l = seen_steps l.found.items ++ steps_of (parts_view (drop l.part-index l.parts)) ≡ steps_of (parts_view l.parts)
