use Rattle.std.proofs.Common.{◌≡◌, ◌++◌, drop}
use Rattle.source_tree.specs.SyntaxView.{all_variables_view}
use Rattle.naming.specs.Scopes.{variables_of}
use Rattle.naming.specs.ScopeView.{variables_view}
use Rattle.pou_scope.proofs.declared.append_sections.Given as goal

abbrev pub invariant-loop-section : goal.invariant-loop-section
invariant-loop-section l = variables_view l.list.items ++ variables_of (all_variables_view (drop l.section-index l.sections)) ≡ variables_view l.fn.list.items ++ variables_of (all_variables_view l.sections)
