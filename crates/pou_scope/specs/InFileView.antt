-- The file around the variables of a POU, and their scope.
use Rattle.source_tree.specs.Syntax.{FileData}
use Rattle.source_tree.specs.SyntaxView.{file_view}
use Rattle.pou_scope.specs.declared.in_file.InFile.{InFile}
use Rattle.pou_scope.specs.SlottedView.{scope_slotted}
use Rattle.naming.specs.Scopes.{PouScope}

abbrev pub file_around : InFile → FileData
file_around v = file_view v.file.now.types.names.file.now

abbrev pub scope_around : InFile → PouScope
scope_around v = scope_slotted v.scope
