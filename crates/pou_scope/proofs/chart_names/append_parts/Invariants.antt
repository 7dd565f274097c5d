use Rattle.std.proofs.Common.{◌≡◌, ◌++◌, drop}
use Rattle.source_tree.specs.SyntaxView.{parts_view}
use Rattle.naming.specs.Scopes.{declared_by_parts}
use Rattle.naming.specs.ScopeView.{variables_view}
use Rattle.naming.specs.TextSets.{has}
use Rattle.pou_scope.proofs.chart_names.append_parts.Given as goal

abbrev pub invariant-loop-part : goal.invariant-loop-part
invariant-loop-part l =
    variables_view l.list.items ++ declared_by_parts (has l.stored) (parts_view (drop l.part-index l.parts))
    ≡ variables_view l.fn.list.items ++ declared_by_parts (has l.stored) (parts_view l.parts)
