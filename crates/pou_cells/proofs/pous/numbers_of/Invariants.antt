use Rattle.std.proofs.Common.{◌≡◌, drop}
use Rattle.source_tree.specs.SyntaxView.{file_view}
use Rattle.typing.specs.Members.{numbered, numbers_of}
use Rattle.pou_cells.proofs.pous.numbers_of.Given as goal

abbrev pub invariant-loop-number : goal.invariant-loop-number
invariant-loop-number l =
    numbered l.numbers.items l.number (drop l.number l.called) ≡ numbers_of (file_view l.names.file.now)
