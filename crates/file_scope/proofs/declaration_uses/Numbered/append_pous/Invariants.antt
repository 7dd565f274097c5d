use Rattle.std.proofs.Common.{◌≡◌, ◌++◌, map, take}
use Rattle.call_order.specs.Uses.{graph_of}
use Rattle.source_tree.specs.SyntaxView.{file_view}
use Rattle.naming.specs.DeclarationUses.{used_by_result}
use Rattle.naming.specs.ScopeView.{pous_view}
use Rattle.file_scope.proofs.declaration_uses.Numbered.append_pous.Given as goal

abbrev pub invariant-loop-pou : goal.invariant-loop-pou
invariant-loop-pou l = graph_of l.all.items ≡ graph_of l.fn.all.items ++ map (λ p. used_by_result (file_view l.self.names.now.file.now) p.pou_type) (pous_view (take l.pou-index l.pous))
