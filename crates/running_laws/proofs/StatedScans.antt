-- A scan of the program that a file states does what one of its whole typed program does.
use Rattle.std.proofs.Common.{◌≡◌, ℕ, List, length, ap, ap₂, pos}
use Rattle.std.specs.Prelude.{slice_set}
use Rattle.plc_types.specs.declared.range.Range.{Range}
use Rattle.source_tree.specs.Syntax.{PouData, FileData}
use Rattle.program_tree.specs.Tree.{Statements}
use Rattle.meaning.specs.Values.{State}
use Rattle.meaning.specs.Effects.{state_of, effect_of_all}
use Rattle.meaning.specs.Calls.{callees_of}
use Rattle.scan_model.specs.Scans.{ranges_of, scanned}
use Rattle.scan_model.specs.InRange.{Row}
use Rattle.scan_model.specs.Pairs.{RelationData, Pair, loaded, after_row}
use Rattle.typing.specs.TypedPrograms.{pou_body, called_by, typed_program}
use Rattle.running_pous.specs.Running.{may_run}
use Rattle.running_pous.specs.Stated.{stated_by, stated_program}
use Rattle.running_pous.proofs.StatedPous.{stated_long, stated_whole}
use Rattle.running_laws.proofs.SameCalls.{body_same}

-- ---- a body over these POUs, and a scan

bodies_same : (f : FileData) (body : Statements) (rs : List Range) (base : ℕ) (s : State)
    → effect_of_all (callees_of (stated_by f (may_run (called_by f) body)) (length (stated_by f (may_run (called_by f) body)))) rs base body s
    ≡ effect_of_all (callees_of (called_by f) (length (called_by f))) rs base body s
bodies_same f body rs base s =
    let runs = may_run (called_by f) body in
    body_same (called_by f) (stated_by f runs) body (stated_long f runs) (stated_whole f runs) rs base s

pub scans_same : (f : FileData) (k : ℕ) (p : PouData) (s : State) → scanned (stated_program f k p) s ≡ scanned (typed_program f k p) s
scans_same f k p s = ap state_of (bodies_same f (pou_body f k p) (ranges_of (typed_program f k p).cells) 0 (slice_set s 0 (pos 0)))

-- ---- a row

abbrev pair_of : State → State → Pair
pair_of old new = record { old = old; new = new }

pub rows_same : (f g : FileData) (k l : ℕ) (p q : PouData) (rel : RelationData) (row : Row) (pair : Pair)
    → after_row (stated_program f k p) (stated_program g l q) rel row pair ≡ after_row (typed_program f k p) (typed_program g l q) rel row pair
rows_same f g k l p q rel row pair =
    let begun = loaded rel.inputs row pair in
    ap₂ pair_of (scans_same f k p begun.old) (scans_same g l q begun.new)
