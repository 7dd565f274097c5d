-- Which file is checked.
use Rattle.source_tree.specs.Syntax.{FileData}
use Rattle.decl_types.specs.Bodies.{file_in}
use Rattle.st_types.specs.declared.checked.Checked.{Checked}

abbrev pub file_checked : Checked → FileData
file_checked c = file_in c.pous.domains
