-- What the flat form of a program is for.
use Rattle.std.specs.Prelude.{◌≡◌}
use Rattle.program_tree.specs.Tree.{ProgramData}
use Rattle.meaning.specs.Values.{State}
use Rattle.scan_model.specs.Scans.{ranges_of, scanned}
use Rattle.scan_model.specs.InRange.{IsInRange, IsFitToRun}
use Rattle.flat_core.specs.FlatTree.{FlatData}
use Rattle.flat_core.specs.FlatScans.{flat_scanned}
use Rattle.flat_core.specs.FlatRules.{IsFlat}
use Rattle.flat_form.specs.FlatPrograms.{flat_program}
use Rattle.flat_form.specs.WellTyped.{IsWellTyped}

-- from every state in range, a scan of the flat form leaves the cells that a scan of the program leaves
abbrev pub LeavesTheSame : ProgramData → FlatData → Type 0
LeavesTheSame p f = (s : State) → IsInRange (ranges_of p.cells) s → flat_scanned f s ≡ scanned p s

-- a well-typed program's flat form does, and keeps the rules of flat programs
abbrev pub FlatFormKeepsMeaning : Type 0
FlatFormKeepsMeaning = (p : ProgramData) → IsFitToRun p → IsWellTyped p → LeavesTheSame p (flat_program p)

abbrev pub FlatFormKeepsRules : Type 0
FlatFormKeepsRules = (p : ProgramData) → IsFitToRun p → IsWellTyped p → IsFlat (flat_program p)
