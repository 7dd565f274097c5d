use Rattle.std.proofs.Common.{◌≡◌, ◌++◌, drop}
use Rattle.std.specs.Prelude.{filter}
use Rattle.call_order.specs.Marks.{is_marked}
use Rattle.source_tree.specs.SyntaxView.{file_view}
use Rattle.typing.specs.Reached.{reached, reached_order}
use Rattle.pou_cells.proofs.reached.reached_order.Given as goal

abbrev pub invariant-loop-number : goal.invariant-loop-number
invariant-loop-number l =
    l.list.items ++ filter (is_marked (reached (file_view l.names.file.now))) (drop l.number-index l.number-items) ≡ reached_order (file_view l.names.file.now)
