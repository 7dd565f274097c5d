-- States in range: their lengths, and what scans make of them.
use Rattle.std.proofs.Common.{◌≡◌, ℕ, true, List, ◌++◌, length, take, drop, ap, sym, subst, ◌∙◌}
use Rattle.plc_types.specs.declared.range.Range.{Range}
use Rattle.program_tree.specs.declared.typed.Cell.{Cell}
use Rattle.program_tree.specs.declared.typed.Program.{Program}
use Rattle.program_tree.specs.View.{cells_view, program_view}
use Rattle.scan_model.specs.declared.relation.Relation.{Relation}
use Rattle.scan_model.specs.declared.relation.InputLine.{InputLine}
use Rattle.meaning.specs.Values.{State}
use Rattle.scan_model.specs.Scans.{ranges_of, scanned}
use Rattle.scan_model.specs.InRange.{Row, IsInRange, IsFitToRun}
use Rattle.scan_model.specs.Pairs.{Pair, IsPairInRange, relation_view, is_allowed, loaded, scanned_both}
use Rattle.scan_model.proofs.Keeping.{IsInRange-length, IsInRange-scanned, IsPairInRange-after_row}
use Rattle.scan_replay.specs.Duos.{AreComparable}
use Rattle.scan_replay.proofs.RowLemmas.{length-ranges, written_back}

pub as_long_as_cells : (cells : List Cell) (s : State) → IsInRange (ranges_of (cells_view cells)) s → length s ≡ length cells
as_long_as_cells cells s f = sym (IsInRange-length _ s f) ∙ length-ranges cells

pub equally_long : (rs : List Range) (s t : State) → IsInRange rs s → IsInRange rs t → length s ≡ length t
equally_long rs s t f g = sym (IsInRange-length rs s f) ∙ IsInRange-length rs t g

-- a machine's state behind a scan, as it is written back
pub run_in_range : (p : Program) (n : ℕ) (before given after : State) → IsFitToRun (program_view p) → IsInRange (ranges_of (cells_view p.cells.items)) before → length after ≡ n → after ≡ scanned (program_view p) given → given ≡ before
    → IsInRange (ranges_of (cells_view p.cells.items)) (take n (after ++ drop (length after) before))
run_in_range p n before given after is f long ran same =
    let kept = IsInRange-scanned (program_view p) is before f in
    written_back (ranges_of (cells_view p.cells.items)) n before after (scanned (program_view p) before) long (ran ∙ ap (scanned (program_view p)) same) kept

-- a pair behind a step
pub step_in_range : (o n : Program) (r : Relation) (row : Row) (before with_row after : Pair) (lines : List InputLine) → AreComparable o n r
    → is_allowed (relation_view r) row before ≡ true → IsPairInRange (program_view o) (program_view n) before
    → with_row ≡ loaded lines row before → lines ≡ r.inputs.items → after ≡ scanned_both (program_view o) (program_view n) with_row
    → IsPairInRange (program_view o) (program_view n) after
step_in_range o n r row before with_row after lines asked may f put same ran =
    let kept = IsPairInRange-after_row (program_view o) (program_view n) (relation_view r) asked.old_is_program asked.new_is_program asked.belongs row before may f in
    let is : with_row ≡ loaded r.inputs.items row before = put ∙ ap (λ (ls : List InputLine). loaded ls row before) same in
    subst (λ (p : Pair). IsPairInRange (program_view o) (program_view n) p) (sym (ran ∙ ap (scanned_both (program_view o) (program_view n)) is)) kept
