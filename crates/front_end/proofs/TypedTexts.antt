-- The program that a text states is typed.
use Rattle.std.proofs.Common.{List, [], ◌∷◌, ◌++◌, ℕ, sym, subst}
use Rattle.source_tree.specs.Syntax.{FileData}
use Rattle.source_tree.specs.Levels.{IsFileLevelled}
use Rattle.program_tree.specs.Tree.{ProgramData}
use Rattle.typed_programs.specs.Programs.{IsTypedProgram}
use Rattle.typed_files.proofs.TypedFiles.{program_typed}
use Rattle.front_end.specs.Texts.{HasFile, StatesProgram}

joined_levels : (f g : FileData) → IsFileLevelled f → IsFileLevelled g → IsFileLevelled (f ++ g)
joined_levels [] g h k = k
joined_levels (i ∷ is) g h k = (h.0, joined_levels is g h.1 k)

pub file_levelled : (text : List ℕ) (f : FileData) → HasFile text f → IsFileLevelled f
file_levelled text f h = subst IsFileLevelled (sym h.joined) (joined_levels h.blocks h.own h.prelude.levelled h.tree.levelled)

pub text_typed : (text : List ℕ) (p : ProgramData) → StatesProgram text p → IsTypedProgram p
text_typed text p h = subst IsTypedProgram (sym h.program) (program_typed h.file h.names (file_levelled text h.file h.states) h.typing h.number h.pou h.one.is h.one.there)
