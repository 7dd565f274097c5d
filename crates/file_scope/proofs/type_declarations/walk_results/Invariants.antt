use Rattle.std.proofs.Common.{◌≡◌, ◌+◌, length, drop}
use Rattle.rules.specs.Rules.{earlier, first_in}
use Rattle.source_tree.specs.SyntaxView.{file_view}
use Rattle.naming.specs.Broken.{in_results}
use Rattle.naming.specs.FileScope.{types_of}
use Rattle.naming.specs.ScopeView.{pous_view}
use Rattle.file_scope.proofs.type_declarations.walk_results.Given as goal

abbrev pub invariant-loop-place : goal.invariant-loop-place
invariant-loop-place l =
    earlier l.first (first_in (in_results (file_view l.scope.types.names.file.now) (length (types_of (file_view l.scope.types.names.file.now)) + l.place) (pous_view (drop l.place l.pous))))
    ≡ earlier l.fn.first (first_in (in_results (file_view l.scope.types.names.file.now) (length (types_of (file_view l.scope.types.names.file.now))) (pous_view l.pous)))
