use Rattle.std.proofs.Common.{◌≡◌, ◌++◌, drop, length}
use Rattle.source_tree.specs.SyntaxView.{type_declarations_view}
use Rattle.naming.specs.FileScope.{names_of_types}
use Rattle.file_scope.specs.FileView.{file_names_view}
use Rattle.naming.specs.ScopeView.{types_view}
use Rattle.file_scope.proofs.names.append_types.Given as goal

abbrev pub invariant-loop-declaration : goal.invariant-loop-declaration
invariant-loop-declaration l = record {
  types : types_view l.list.types.items ++ type_declarations_view (drop l.declaration-index l.declarations) ≡ types_view l.fn.list.types.items ++ type_declarations_view l.declarations;
  names :
      file_names_view l.list.names.items ++ names_of_types (length l.list.types.items) (type_declarations_view (drop l.declaration-index l.declarations))
      ≡ file_names_view l.fn.list.names.items ++ names_of_types (length l.fn.list.types.items) (type_declarations_view l.declarations);
  pous : l.list.pous ≡ l.fn.list.pous;
}
