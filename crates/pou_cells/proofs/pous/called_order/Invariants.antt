use Rattle.std.proofs.Common.{◌≡◌, ◌++◌, drop}
use Rattle.std.specs.Prelude.{filter}
use Rattle.naming.specs.FileScope.{pou_type_at}
use Rattle.source_tree.specs.SyntaxView.{file_view}
use Rattle.typing.specs.Members.{may_be_called, called_order}
use Rattle.pou_cells.proofs.pous.called_order.Given as goal

abbrev pub invariant-loop-number : goal.invariant-loop-number
invariant-loop-number l =
    l.list.items ++ filter (λ k. may_be_called (pou_type_at (file_view l.names.file.now) k)) (drop l.number-index l.reached) ≡ called_order (file_view l.names.file.now)
