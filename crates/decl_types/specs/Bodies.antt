-- What the names of a file stand for.
use Rattle.source_tree.specs.Syntax.{FileData}
use Rattle.source_tree.specs.SyntaxView.{file_view}
use Rattle.decl_types.specs.declared.file_types.FileTypes.{FileTypes}
use Rattle.decl_types.specs.declared.domains.Domains.{Domains}
use Rattle.typing.specs.Typing.{Scope}
use Rattle.typing.specs.Domains.{values_scope}

abbrev pub file_of : FileTypes → FileData
file_of s = file_view s.names.now.file.now

abbrev pub values_in : FileTypes → Scope
values_in s = values_scope (file_of s)

abbrev pub file_in : Domains → FileData
file_in s = file_of s.types
