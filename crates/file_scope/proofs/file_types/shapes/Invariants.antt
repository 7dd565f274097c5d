use Rattle.std.proofs.Common.{◌≡◌, ◌++◌, drop}
use Rattle.source_tree.specs.SyntaxView.{file_view}
use Rattle.naming.specs.Ends.{shapes_from}
use Rattle.naming.specs.ScopeView.{types_view}
use Rattle.file_scope.proofs.file_types.shapes.Given as goal

abbrev pub invariant-loop-number : goal.invariant-loop-number
invariant-loop-number l =
    l.shapes.items ++ shapes_from (file_view l.names.file.now) l.number (types_view (drop l.number l.types)) ≡ shapes_from (file_view l.names.file.now) 0 (types_view l.types)
