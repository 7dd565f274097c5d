use Rattle.std.proofs.Common.{◌≡◌, ◌++◌, drop}
use Rattle.source_tree.specs.SyntaxView.{declarations_view}
use Rattle.naming.specs.Scopes.{declared_in}
use Rattle.naming.specs.ScopeView.{variables_view}
use Rattle.pou_scope.proofs.declared.append_section.Given as goal

abbrev pub invariant-loop-declaration : goal.invariant-loop-declaration
invariant-loop-declaration l =
    variables_view l.list.items ++ declared_in l.role (declarations_view (drop l.declaration-index l.declarations))
    ≡ variables_view l.fn.list.items ++ declared_in l.role (declarations_view l.declarations)
