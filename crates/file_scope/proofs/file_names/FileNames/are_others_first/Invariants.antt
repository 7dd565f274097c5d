use Rattle.std.proofs.Common.{◌≡◌, ◌+◌, drop}
use Rattle.source_tree.specs.SyntaxView.{names_view, file_view}
use Rattle.naming.specs.Types.{are_first}
use Rattle.file_scope.proofs.file_names.FileNames.are_others_first.Given as goal

abbrev pub invariant-loop-place : goal.invariant-loop-place
invariant-loop-place l =
    are_first (file_view l.self.file.now) l.number (l.place + 1) (names_view (drop l.place l.others)) ≡ are_first (file_view l.self.file.now) l.number 1 (names_view l.others)
