use Rattle.std.proofs.Common.{◌≡◌, ◌++◌, drop}
use Rattle.source_tree.specs.SyntaxView.{file_view}
use Rattle.naming.specs.Ends.{wholes_from}
use Rattle.naming.specs.ScopeView.{types_view}
use Rattle.file_scope.proofs.file_types.FileTypes.wholes.Given as goal

abbrev pub invariant-loop-number : goal.invariant-loop-number
invariant-loop-number l =
    l.marks.items ++ wholes_from (file_view l.self.names.file.now) l.number (types_view (drop l.number l.types)) ≡ wholes_from (file_view l.self.names.file.now) 0 (types_view l.types)
