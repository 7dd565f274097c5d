use Rattle.std.proofs.Common.{◌≡◌, ◌++◌, drop}
use Rattle.program_tree.specs.View.{lists_of_texts}
use Rattle.naming.specs.FileScope.{types_of}
use Rattle.naming.specs.ScopeView.{types_view}
use Rattle.decl_types.specs.Bodies.{file_of}
use Rattle.typing.specs.TypedPrograms.{type_texts}
use Rattle.decl_types.proofs.names_of_types.type_texts.Given as goal

abbrev pub invariant-loop-declaration : goal.invariant-loop-declaration
invariant-loop-declaration l = lists_of_texts l.list.items ++ type_texts (types_view (drop l.declaration-index l.file.types.now)) ≡ type_texts (types_of (file_of l.file))
