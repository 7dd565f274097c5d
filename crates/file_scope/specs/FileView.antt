-- The names that a file declares, as data.
use Rattle.std.specs.Prelude.{List, map}
use Rattle.source_tree.specs.SyntaxView.{name_view}
use Rattle.file_scope.specs.declared.names.FileName.{FileName}
use Rattle.naming.specs.FileScope.{DeclaredName}

abbrev pub file_name_view : FileName → DeclaredName
file_name_view n = (name_view n.name.now, n.standing)

abbrev pub file_names_view : List FileName → List DeclaredName
file_names_view ns = map file_name_view ns
