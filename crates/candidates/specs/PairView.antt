-- The programs of a pair.
use Rattle.program_tree.specs.Tree.{ProgramData}
use Rattle.program_tree.specs.View.{program_view}
use Rattle.candidates.specs.declared.pair.Pair.{Pair}

abbrev pub old_of : Pair → ProgramData
old_of pair = program_view pair.old.program.now

abbrev pub new_of : Pair → ProgramData
new_of pair = program_view pair.new.program.now
