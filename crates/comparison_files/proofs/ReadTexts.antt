-- The program that a text states is typed, and its cells are those of its types.
use Rattle.std.proofs.Common.{ℕ, List, sym, subst}
use Rattle.program_tree.specs.Tree.{ProgramData}
use Rattle.scan_model.specs.InRange.{IsFitToRun}
use Rattle.command_files.specs.front_end.Texts.{StatesProgram}
use Rattle.command_files.proofs.front_end.TypedTexts.{file_levelled, text_typed}
use Rattle.typed_relations.specs.StatedCells.{HasStatedCells}
use Rattle.typed_relations.proofs.StatedCells.{cells_stated}
use Rattle.typed_relations.specs.Readings.{IsReadProgram}

-- the program that a text states has the cells, charts and types of its whole typed program
text_stated : (text : List ℕ) (p : ProgramData) → StatesProgram text p → HasStatedCells p
text_stated text p h =
    let whole = cells_stated h.file h.names (file_levelled text h.file h.states) h.typing h.number h.pou h.one.there in
    subst HasStatedCells (sym h.program) (record { cells = whole.cells; few = whole.few; charts = whole.charts })

pub program_read : (text : List ℕ) (p : ProgramData) → StatesProgram text p → IsFitToRun p → IsReadProgram p
program_read text p h fit = record { is_program = fit; typed = text_typed text p h; cells = text_stated text p h }
