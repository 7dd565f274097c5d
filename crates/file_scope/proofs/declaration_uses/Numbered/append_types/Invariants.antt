use Rattle.std.proofs.Common.{◌≡◌, ◌++◌, map, take}
use Rattle.call_order.specs.Uses.{graph_of}
use Rattle.source_tree.specs.SyntaxView.{file_view}
use Rattle.naming.specs.DeclarationUses.{used_by_specification}
use Rattle.naming.specs.ScopeView.{types_view}
use Rattle.file_scope.proofs.declaration_uses.Numbered.append_types.Given as goal

abbrev pub invariant-loop-declaration : goal.invariant-loop-declaration
invariant-loop-declaration l = graph_of l.all.items ≡ graph_of l.fn.all.items ++ map (λ d. used_by_specification (file_view l.self.names.now.file.now) d.specification) (types_view (take l.declaration-index l.types))
