use Rattle.std.proofs.Common.{◌≡◌, ◌++◌, map, drop}
use Rattle.source_tree.specs.SyntaxView.{file_view}
use Rattle.naming.specs.Broken.{is_program_pou}
use Rattle.naming.specs.FileScope.{pous_of}
use Rattle.pou_cells.proofs.reached.programs.Given as goal

abbrev pub invariant-loop-number : goal.invariant-loop-number
invariant-loop-number l =
    l.marks.items ++ map is_program_pou (drop l.number (pous_of (file_view l.names.file.now))) ≡ map is_program_pou (pous_of (file_view l.names.file.now))
