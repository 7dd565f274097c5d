use Rattle.std.proofs.Common.{◌≡◌, ◌++◌, drop}
use Rattle.source_tree.specs.SyntaxView.{parts_view}
use Rattle.sfc_shape.specs.Shapes.{transitions_of}
use Rattle.sfc_shape.specs.ShapeView.{seen_transitions}
use Rattle.sfc_shape.proofs.parts.transitions.Given as goal

abbrev pub invariant-loop-part : goal.invariant-loop-part
invariant-loop-part l = seen_transitions l.found.items ++ transitions_of (parts_view (drop l.part-index l.parts)) ≡ transitions_of (parts_view l.parts)
