use Rattle.std.proofs.Common.{◌≡◌, ◌++◌, map, drop}
use Rattle.naming.specs.FileScope.{pou_at}
use Rattle.program_tree.specs.View.{all_called_view}
use Rattle.decl_types.specs.Bodies.{file_in}
use Rattle.st_types.specs.Outlines.{outlined_if}
use Rattle.st_types.proofs.outlines.outlined_by.Given as goal

abbrev pub invariant-loop-number : goal.invariant-loop-number
invariant-loop-number l =
    all_called_view l.list.items ++ map (λ k. outlined_if (file_in l.pous.domains) l.sizes k (pou_at (file_in l.pous.domains) k)) (drop l.number-index l.pous.called.items) ≡ map (λ k. outlined_if (file_in l.pous.domains) l.sizes k (pou_at (file_in l.pous.domains) k)) l.pous.called.items
