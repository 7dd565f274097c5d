-- The lines of a replay.
use Rattle.std.specs.Prelude.{ℕ, ◌+◌, List, [], ◌∷◌, ◌++◌, codes, decimal, ℤ}
use Rattle.std.specs.Fmt.{signed_decimal}
use Rattle.program_tree.specs.declared.typed.Part.{Part}
use Rattle.program_tree.specs.declared.typed.Part.TheVariants.{Fault, Input, Output, Local}
use Rattle.program_tree.specs.Tree.{CellData, ProgramData}
use Rattle.scan_model.specs.declared.relation.Ending.{Ending}
use Rattle.scan_model.specs.declared.relation.Ending.TheVariants.{Related, Unrelated, NotAllowed}
use Rattle.meaning.specs.Values.{State}
use Rattle.scan_model.specs.InRange.{Row}
use Rattle.scan_model.specs.Pairs.{RelationData, Pair, after_row}

abbrev pub shown_cell : Part → ℤ → List ℕ
shown_cell Fault v = codes " " ++ signed_decimal v
shown_cell Input v = []
shown_cell Output v = codes " " ++ signed_decimal v
shown_cell Local v = []

-- FAULT, then the outputs as declared
abbrev pub shown : List CellData → State → List ℕ
shown [] s = []
shown (c ∷ cs) [] = []
shown (c ∷ cs) (v ∷ s) = shown_cell c.part v ++ shown cs s

-- the line of scan k, by the pair after it
abbrev pub scan_line : ProgramData → ProgramData → ℕ → Pair → List ℕ
scan_line old new k pair = codes "SCAN " ++ decimal k ++ codes " OLD" ++ shown old.cells pair.old ++ codes " NEW" ++ shown new.cells pair.new ++ codes "\n"

-- a line for each of these rows, from a pair on, after k scans
abbrev pub scan_lines : ProgramData → ProgramData → RelationData → ℕ → Pair → List Row → List ℕ
scan_lines old new rel k pair [] = []
scan_lines old new rel k pair (row ∷ rows) =
    scan_line old new (k + 1) (after_row old new rel row pair) ++ scan_lines old new rel (k + 1) (after_row old new rel row pair) rows

abbrev pub ending_line : Ending → List ℕ
ending_line (Related n) = codes "REPLAY scans " ++ decimal n ++ codes " related\n"
ending_line (Unrelated k) = codes "REPLAY unrelated at " ++ decimal k ++ codes "\n"
ending_line (NotAllowed k) = codes "REPLAY not allowed at " ++ decimal k ++ codes "\n"
