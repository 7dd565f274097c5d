use Rattle.std.proofs.Common.{◌≡◌, map, take}
use Rattle.source_tree.specs.SyntaxView.{file_view}
use Rattle.naming.specs.Scopes.{scope_with, seen}
use Rattle.naming.specs.ScopeView.{variables_view, seen_view}
use Rattle.pou_scope.proofs.in_file.all_seen.Given as goal

abbrev pub invariant-loop-variable : goal.invariant-loop-variable
invariant-loop-variable l = record {
  spelled : variables_view l.all.items ≡ variables_view (take l.variable-index l.variables);
  seen : map seen_view l.all.items ≡ map (seen (file_view l.file.types.names.file.now) (scope_with l.has_fault (variables_view l.variables))) (variables_view (take l.variable-index l.variables));
}
