use Rattle.std.proofs.Common.{◌≡◌, ◌∷◌, ◌++◌, drop}
use Rattle.source_tree.specs.SyntaxView.{name_view, names_view}
use Rattle.program_tree.specs.View.{texts_view}
use Rattle.typing.specs.TypedPrograms.{texts_of}
use Rattle.decl_types.proofs.names_of_types.names_of_values.Given as goal

abbrev pub invariant-loop-name : goal.invariant-loop-name
invariant-loop-name l = texts_view l.list.items ++ texts_of (names_view (drop l.name-index l.others)) ≡ texts_of (name_view l.first ∷ names_view l.others)
