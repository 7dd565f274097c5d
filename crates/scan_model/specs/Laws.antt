-- Laws of the definitions.
use Rattle.std.specs.Prelude.{◌≡◌, true}
use Rattle.program_tree.specs.Tree.{ProgramData}
use Rattle.meaning.specs.Values.{State}
use Rattle.scan_model.specs.Scans.{ranges_of, scanned}
use Rattle.scan_model.specs.InRange.{Row, IsInRange, IsFitToRun}
use Rattle.scan_model.specs.Pairs.{RelationData, Pair, BelongsTo, IsPairInRange, is_allowed, after_row}

-- a scan keeps every value in its cell's range
abbrev pub ScansKeepRanges : Type 0
ScansKeepRanges =
    (p : ProgramData) → IsFitToRun p → (s : State) → IsInRange (ranges_of p.cells) s → IsInRange (ranges_of p.cells) (scanned p s)

-- an allowed row leads from a pair in range to a pair in range
abbrev pub RowsKeepRanges : Type 0
RowsKeepRanges =
    (old new : ProgramData) (rel : RelationData) → IsFitToRun old → IsFitToRun new → BelongsTo old new rel
    → (row : Row) (pair : Pair) → is_allowed rel row pair ≡ true → IsPairInRange old new pair
    → IsPairInRange old new (after_row old new rel row pair)
