use Rattle.std.proofs.Common.{◌≡◌, ◌++◌, drop, length}
use Rattle.source_tree.specs.SyntaxView.{items_view}
use Rattle.naming.specs.FileScope.{types_of, pous_of, names_of, names_of_items}
use Rattle.file_scope.specs.FileView.{file_names_view}
use Rattle.naming.specs.ScopeView.{types_view, pous_view}
use Rattle.file_scope.proofs.names.list_declarations.Given as goal

abbrev pub invariant-loop-item : goal.invariant-loop-item
invariant-loop-item l = record {
  types : types_view l.list.types.items ++ types_of (items_view (drop l.item-index l.item-items)) ≡ types_of (items_view l.item-items);
  names :
      file_names_view l.list.names.items ++ names_of_items (length l.list.types.items) (length l.list.pous.items) (items_view (drop l.item-index l.item-items))
      ≡ names_of (items_view l.item-items);
  pous : pous_view l.list.pous.items ++ pous_of (items_view (drop l.item-index l.item-items)) ≡ pous_of (items_view l.item-items);
}
