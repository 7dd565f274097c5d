use Rattle.std.proofs.Common.{◌≡◌, ◌++◌, drop, map}
use Rattle.source_tree.specs.SyntaxView.{names_view, declaration_view}
use Rattle.naming.specs.Scopes.{declared_by}
use Rattle.naming.specs.ScopeView.{variable_view, variables_view}
use Rattle.pou_scope.proofs.declared.append_declared.Given as goal

abbrev pub invariant-loop-name : goal.invariant-loop-name
invariant-loop-name l =
    variables_view l.list.items ++ map (λ n. record (variable_view l.first) { name = n }) (names_view (drop l.name-index l.name-items))
    ≡ variables_view l.fn.list.items ++ declared_by l.fn.role (declaration_view l.fn.declaration)
