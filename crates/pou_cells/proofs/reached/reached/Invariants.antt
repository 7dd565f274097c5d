use Rattle.std.proofs.Common.{◌≡◌, ◌≤◌, length, map, drop}
use Rattle.call_order.specs.Uses.{order_of}
use Rattle.source_tree.specs.SyntaxView.{file_view}
use Rattle.naming.specs.Broken.{is_program_pou}
use Rattle.naming.specs.Circles.{uses_of}
use Rattle.naming.specs.FileScope.{pous_of}
use Rattle.typing.specs.Reached.{marks_along}
use Rattle.pou_cells.proofs.reached.reached.Given as goal

abbrev pub invariant-loop-left : goal.invariant-loop-left
invariant-loop-left l =
    let f = file_view l.names.file.now in
    (l.left ≤ length l.order) × (l.marks.items ≡ marks_along (uses_of f) (map is_program_pou (pous_of f)) (drop l.left (order_of (uses_of f))))

abbrev pub decreases-loop-left : goal.decreases-loop-left
decreases-loop-left l = l.left
