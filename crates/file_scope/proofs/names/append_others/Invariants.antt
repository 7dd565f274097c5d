use Rattle.std.proofs.Common.{◌≡◌, ◌+◌, ◌++◌, drop}
use Rattle.source_tree.specs.SyntaxView.{names_view}
use Rattle.naming.specs.FileScope.{names_of_values}
use Rattle.file_scope.specs.FileView.{file_names_view}
use Rattle.file_scope.proofs.names.append_others.Given as goal

abbrev pub invariant-loop-place : goal.invariant-loop-place
invariant-loop-place l =
    file_names_view l.list.items ++ names_of_values l.number (l.place + 1) (names_view (drop l.place l.others))
    ≡ file_names_view l.fn.list.items ++ names_of_values l.number 1 (names_view l.others)
