-- What answers a query is numbers of a finding: values in ranges of numbers of types.
use Rattle.std.proofs.Common.{◌≡◌, ℕ, zero, suc, ◌<◌, true, List, [], ◌∷◌, ◌++◌, length, get_or, map, sym, subst, arith, ℤ}
use Rattle.std.specs.Prelude.{◌≤ℤ◌, All}
use Rattle.std.proofs.lemmas.Bool.{false≢true, and_parts}
use Rattle.std.proofs.lemmas.Int.{ints}
use Rattle.std.proofs.lemmas.List.Elements.{All-nil, All-cons, All-head, All-tail, All-append, All-get_or}
use Rattle.plc_types.specs.declared.elementary.Elementary.{Elementary}
use Rattle.plc_types.specs.declared.range.Range.{Range}
use Rattle.plc_types.specs.DataTypes.{carrier}
use Rattle.plc_types.specs.Types.{range_of, in_range}
use Rattle.plc_types.proofs.InRange.{bounds}
use Rattle.plc_types.proofs.Widths.{least_bound, greatest_bound}
use Rattle.program_tree.specs.Tree.{CellData, ProgramData}
use Rattle.program_tree.specs.Places.{of_cell, IsTypedPlace}
use Rattle.scan_model.specs.declared.relation.InputLine.{InputLine}
use Rattle.scan_model.specs.declared.relation.InputLine.TheVariants.{Both, Old, New}
use Rattle.scan_model.specs.Scans.{ranges_of}
use Rattle.scan_model.specs.InRange.{Row, IsInRange}
use Rattle.scan_model.specs.Pairs.{Pair, start, is_allowed, after_row, fits_lines, range_of_line, all_hold, loaded, IsCellOf, NamesCells}
use Rattle.scan_model.specs.Verdicts.{CandidateSet, IsBreakFrom, AreAllowedFrom}
use Rattle.queries.specs.Comparisons.{Comparison, HasTypedPlaces, IsComparison}
use Rattle.queries.specs.Questions.{first, step, goal}
use Rattle.queries.specs.Meaning.{Answers}
use Rattle.queries.specs.declared.decoded.Decoded.{Decoded}
use Rattle.finding_lines.specs.Numbers.{IsNumber, AreNumbers}
use Rattle.invariant_prune.specs.Answers.{pair_of}
use Rattle.finding_search.specs.Numbered.{AreNumberRows, HasNumbers}
use Rattle.finding_search.specs.Shown.{numbers_of}

-- a range of numbers of some type
record IsTypedRange (r : Range) : Type 0 where
  kind : Elementary
  low : in_range r.low (range_of kind) ≡ true
  high : in_range r.high (range_of kind) ≡ true

between : (r : Range) → IsTypedRange r → (v : ℤ) → r.low ≤ℤ v → v ≤ℤ r.high → IsNumber v
between r h v from to =
    let low = (bounds r.low (range_of h.kind) h.low).0 in
    let high = (bounds r.high (range_of h.kind) h.high).1 in
    let least = least_bound h.kind in
    let greatest = greatest_bound h.kind in
    record { from = omega (arith, ints); below = omega (arith, ints) }

cell_range : (cell : CellData) → IsTypedPlace (of_cell cell) → IsTypedRange cell.range
cell_range cell h = record { kind = carrier cell.kind; low = h.0; high = h.1 }

-- a state in range
state-numbers : (cells : List CellData) (s : List ℤ) → All IsTypedPlace (map of_cell cells) → IsInRange (ranges_of cells) s → AreNumbers s
state-numbers [] [] typed h = All-nil IsNumber
state-numbers [] (v ∷ vs) typed h = absurd h
state-numbers (cell ∷ cells) [] typed h = absurd h
state-numbers (cell ∷ cells) (v ∷ vs) typed h =
    All-cons IsNumber v vs (between cell.range (cell_range cell (All-head IsTypedPlace (of_cell cell) (map of_cell cells) typed)) v h.0 h.1)
    (state-numbers cells vs (All-tail IsTypedPlace (of_cell cell) (map of_cell cells) typed) h.2)

-- ---- rows

range_there : (cells : List CellData) (place : ℕ) (none : Range) → All IsTypedPlace (map of_cell cells) → place < length cells → IsTypedRange (get_or (ranges_of cells) place none)
range_there [] place none typed low = absurd (omega (arith, low))
range_there (cell ∷ cells) zero none typed low = cell_range cell (All-head IsTypedPlace (of_cell cell) (map of_cell cells) typed)
range_there (cell ∷ cells) (suc place) none typed low = range_there cells place none (All-tail IsTypedPlace (of_cell cell) (map of_cell cells) typed) (omega arith)

named_range : (p : ProgramData) (place : ℕ) (r : Range) → HasTypedPlaces p → IsCellOf p place r → IsTypedRange r
named_range p place r typed h = subst IsTypedRange h.1 (range_there p.cells place _ typed h.0)

line_range : (old new : ProgramData) (l : InputLine) → HasTypedPlaces old → HasTypedPlaces new → NamesCells old new l → IsTypedRange (range_of_line l)
line_range old new (Both r p q) o w h = named_range old p r o h.0
line_range old new (Old r p) o w h = named_range old p r o h
line_range old new (New r q) o w h = named_range new q r w h

line-numbers : (old new : ProgramData) (ls : List InputLine) (row : Row) → HasTypedPlaces old → HasTypedPlaces new → All (NamesCells old new) ls → fits_lines ls row ≡ true → AreNumbers row
line-numbers old new [] [] o w named h = All-nil IsNumber
line-numbers old new [] (v ∷ row) o w named h = absurd (false≢true h)
line-numbers old new (l ∷ ls) [] o w named h = absurd (false≢true h)
line-numbers old new (l ∷ ls) (v ∷ row) o w named h =
    let parts = and_parts (in_range v (range_of_line l)) (fits_lines ls row) h in
    let inside = bounds v (range_of_line l) parts.0 in
    All-cons IsNumber v row (between (range_of_line l) (line_range old new l o w (All-head (NamesCells old new) l ls named)) v inside.0 inside.1)
    (line-numbers old new ls row o w (All-tail (NamesCells old new) l ls named) parts.1)

module _ (c : Comparison) (is : IsComparison c) where
  allowed-numbers : (row : Row) (pair : Pair) → is_allowed c.relation row pair ≡ true → AreNumbers row
  allowed-numbers row pair h =
      line-numbers c.old c.new c.relation.inputs row is.old_places is.new_places is.relatable.belongs
      (and_parts (fits_lines c.relation.inputs row) (all_hold c.relation.environment (loaded c.relation.inputs row pair)) h).0

  pub walk-numbers : (rows : List Row) (pair : Pair) → AreAllowedFrom c.old c.new c.relation pair rows → AreNumberRows rows
  walk-numbers [] pair h = All-nil AreNumbers
  walk-numbers (row ∷ rows) pair h =
      All-cons AreNumbers row rows (allowed-numbers row pair h.0) (walk-numbers rows (after_row c.old c.new c.relation row pair) h.1)

  pub break-numbers : (rows : List Row) (pair : Pair) → IsBreakFrom c.old c.new c.relation pair rows → AreNumberRows rows
  break-numbers [] pair h = absurd h
  break-numbers (row ∷ []) pair h = All-cons AreNumbers row [] (allowed-numbers row pair h.0) (All-nil AreNumbers)
  break-numbers (row ∷ next ∷ rows) pair h =
      All-cons AreNumbers row (next ∷ rows) (allowed-numbers row pair h.0) (break-numbers (next ∷ rows) (after_row c.old c.new c.relation row pair) h.2)

  one-row : (rows : List Row) (row : Row) (pair : Pair) → rows ≡ row ∷ [] → is_allowed c.relation row pair ≡ true → AreNumberRows rows
  one-row rows row pair e h = subst AreNumberRows (sym e) (All-cons AreNumbers row [] (allowed-numbers row pair h) (All-nil AreNumbers))

  pub first-numbers : (pair : Pair) (rows : List Row) → Answers c first pair rows → AreNumberRows rows
  first-numbers pair rows a = one-row rows a.0 (start c.old c.new) a.1 a.2

  found : (d : Decoded) (row : Row) → IsInRange (ranges_of c.old.cells) d.old.items → IsInRange (ranges_of c.new.cells) d.new.items → d.rows.items ≡ row ∷ []
      → is_allowed c.relation row (pair_of d) ≡ true → HasNumbers d
  found d row old new e h = record {
    old = state-numbers c.old.cells d.old.items is.old_places old;
    new = state-numbers c.new.cells d.new.items is.new_places new;
    rows = one-row d.rows.items row (pair_of d) e h;
  }

  pub step-numbers : (set : CandidateSet) (d : Decoded) → Answers c (step set) (pair_of d) d.rows.items → HasNumbers d
  step-numbers set d a = found d a.0 a.2.in_range.0 a.2.in_range.1 a.1 a.2.allowed

  pub goal-numbers : (set : CandidateSet) (d : Decoded) → Answers c (goal set) (pair_of d) d.rows.items → HasNumbers d
  goal-numbers set d a = found d a.0 a.2.in_range.0 a.2.in_range.1 a.1 a.2.allowed

-- ---- a row that is read, and the numbers of a line

pub row_at : (rows : List Row) (i : ℕ) (row : Row) → i < length rows → row ≡ get_or rows i row → AreNumberRows rows → AreNumbers row
row_at rows i row inside is h = subst AreNumbers (sym is) (All-get_or AreNumbers rows i row inside h)

pub pair-numbers : (d : Decoded) (row : Row) → AreNumbers d.old.items → AreNumbers d.new.items → AreNumbers row → AreNumbers (numbers_of (pair_of d) row)
pair-numbers d row old new h = All-append IsNumber d.old.items (d.new.items ++ row) old (All-append IsNumber d.new.items row new h)
