use Rattle.std.proofs.Common.{◌≡◌, drop}
use Rattle.rules.specs.Rules.{earlier, first_in}
use Rattle.source_tree.specs.SyntaxView.{file_view}
use Rattle.naming.specs.Broken.{in_types}
use Rattle.naming.specs.ScopeView.{types_view}
use Rattle.file_scope.proofs.type_declarations.walk_types.Given as goal

abbrev pub invariant-loop-number : goal.invariant-loop-number
invariant-loop-number l =
    earlier l.first (first_in (in_types (file_view l.scope.types.names.file.now) l.number (types_view (drop l.number l.types))))
    ≡ earlier l.fn.first (first_in (in_types (file_view l.scope.types.names.file.now) 0 (types_view l.types)))
