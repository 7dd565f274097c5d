-- Runs of scans: the clauses of a break are true exactly where the rows that the words spell are one.
use Rattle.std.proofs.Common.{◌≡◌, ℕ, zero, suc, ◌+◌, ◌-◌, ◌*◌, ◌≤◌, Bool, true, refl, sym, ◌∙◌, ap, List, [], ◌∷◌, ◌++◌, length, map, arith, append_assoc, length-append}
use Rattle.std.proofs.lemmas.Bool.{and_parts, and_from}
use Rattle.clause_core.specs.Satisfaction.{assigned, formula_true}
use Rattle.scan_model.specs.InRange.{Row}
use Rattle.scan_model.specs.Pairs.{Pair, IsPairInRange, is_allowed, is_related, after_row}
use Rattle.scan_model.specs.Verdicts.{IsBreakFrom}
use Rattle.queries.specs.Comparisons.{Comparison}
use Rattle.gates.specs.Netlists.{Netlist}
use Rattle.gates.specs.Models.{IsModel, Agrees}
use Rattle.gates.proofs.Growth.{IsModel-front}
use Rattle.node_core.specs.NodeLaws.{kinds_of}
use Rattle.node_core.specs.Scans.{ScanData}
use Rattle.node_circuits.specs.NodeWords.{Words}
use Rattle.query_formulas.specs.CellShapes.{shapes_of}
use Rattle.query_formulas.specs.Parts.{lines_cells, parts_of}
use Rattle.query_formulas.specs.PairWords.{PairWords, free_words}
use Rattle.query_formulas.specs.Breaks.{ScanLiterals, scan_from, scans_from}
use Rattle.query_formulas.specs.QueryClauses.{units, some_fails, row_units, break_units}
use Rattle.query_formulas.specs.Decoded.{decoded_state}
use Rattle.query_formulas.proofs.Growth.{extends_rest, extends_scan_from}
use Rattle.query_formula_laws.specs.TypedComparisons.{IsTypedComparison, IsScanOf}
use Rattle.query_formula_laws.proofs.TypedValues.{AreOfTypes}
use Rattle.query_formula_laws.proofs.FreeBits.{value_bits, joined}
use Rattle.query_formula_laws.proofs.FreeWords.{length-bits}
use Rattle.query_formula_laws.proofs.Spelled.{Spells, SpellsPair}
use Rattle.query_formula_laws.proofs.FormulaTruth.{all_of, truths, units-true, some_fails-true, formula-append}
use Rattle.query_formula_laws.proofs.OneScan.{from_not, to_not}
use Rattle.query_formula_laws.proofs.Given.{allowed_fits, free_read, free_given, free_agree}
use Rattle.query_formula_laws.proofs.ScanTruth.{row_true, spells_behind, inside_behind, relates_true}
use Rattle.query_formula_laws.proofs.Begun.{line_bits}
use Rattle.query_formula_laws.proofs.Runs.{scan_at, begun_at, behind, extends_last}

-- ---- rows and their words

abbrev pub row_words : Comparison → ℕ → Words
row_words c x = free_words x (shapes_of (lines_cells c))

-- the words of each row, from a variable on, have its numbers
abbrev pub RowsSpelled : (ℕ → Bool) → Comparison → ℕ → List Row → Type 0
RowsSpelled v c x [] = Unit {0}
RowsSpelled v c x (row ∷ rows) = Spells v (lines_cells c) (row_words c x) row × RowsSpelled v c (x + line_bits c) rows

abbrev pub row_read : (ℕ → Bool) → Comparison → Words → Row
row_read v c inputs = decoded_state (shapes_of (lines_cells c)) inputs v

abbrev pub rows_read : (ℕ → Bool) → Comparison → List ScanLiterals → List Row
rows_read v c ss = map (λ s. row_read v c s.inputs) ss

module _ (v : ℕ → Bool) (c : Comparison) (a b : ScanData) where
  pub rows_read-spelled : (j x : ℕ) (words : PairWords) (n : Netlist) → RowsSpelled v c x (rows_read v c (scans_from (parts_of c a b) j x words n).scans)
  rows_read-spelled zero x words n = tt
  rows_read-spelled (suc j) x words n = let s = scan_from (parts_of c a b) (row_words c x) words n in (free_read v x (lines_cells c), rows_read-spelled j (x + line_bits c) s.pair s.net)

  pub length-rows_read : (j x : ℕ) (words : PairWords) (n : Netlist) → length (rows_read v c (scans_from (parts_of c a b) j x words n).scans) ≡ j
  length-rows_read zero x words n = refl
  length-rows_read (suc j) x words n = let s = scan_from (parts_of c a b) (row_words c x) words n in ap suc (length-rows_read j (x + line_bits c) s.pair s.net)

abbrev pub RowsTyped : Comparison → List Row → Type 0
RowsTyped c [] = Unit {0}
RowsTyped c (row ∷ rows) = AreOfTypes (kinds_of (lines_cells c)) row × RowsTyped c rows

abbrev pub rows_bits : Comparison → List Row → List Bool
rows_bits c [] = []
rows_bits c (row ∷ rows) = joined (value_bits (kinds_of (lines_cells c)) row) ++ rows_bits c rows

pub rows_given : (c : Comparison) (rows : List Row) (front back values : List Bool) (k : ℕ) → RowsTyped c rows → values ≡ front ++ rows_bits c rows ++ back → k ≡ length front → RowsSpelled (assigned values) c k rows
rows_given c [] front back values k typed e f = tt
rows_given c (row ∷ rows) front back values k typed e f =
    let bits = joined (value_bits (kinds_of (lines_cells c)) row) in
    let rest = rows_bits c rows in
    let long : length bits ≡ line_bits c = length-bits (lines_cells c) row typed.0 in
    let next : values ≡ (front ++ bits) ++ rest ++ back = e ∙ ap (λ (bs : List Bool). bs ++ back) (sym (append_assoc front bits rest)) in (
      free_given (lines_cells c) row front (rest ++ back) values k typed.0 (next ∙ append_assoc (front ++ bits) rest back) f,
      rows_given c rows (front ++ bits) back values (k + line_bits c) typed.1 next (further (length front) (length bits) k (line_bits c) (length (front ++ bits)) f long (length-append front bits)),
    )
  where
    further : (l m k s j : ℕ) → k ≡ l → m ≡ s → j ≡ l + m → k + s ≡ j
    further l m k s j e f g = omega arith

more_rows : (k r s x : ℕ) → k + suc r * s ≤ x → (k + s ≤ x) × (k + s + r * s ≤ x)
more_rows k r s x h = (omega arith, omega arith)

pub rows_agree : (v u : ℕ → Bool) (c : Comparison) (x k : ℕ) (rows : List Row) → Agrees x v u → k + length rows * line_bits c ≤ x → RowsSpelled u c k rows → RowsSpelled v c k rows
rows_agree v u c x k [] a low h = tt
rows_agree v u c x k (row ∷ rows) a low h =
    let m = more_rows k (length rows) (line_bits c) x low in
    (free_agree v u x k (lines_cells c) row a m.0 h.0, rows_agree v u c x (k + line_bits c) rows a m.1 h.1)

-- ---- truth

module _ (v : ℕ → Bool) (c : Comparison) (t : IsTypedComparison c) (a b : ScanData) (is_a : IsScanOf c.old a) (is_b : IsScanOf c.new b) where
  pub break_found : (j x : ℕ) (words : PairWords) (n : Netlist) (pair : Pair) (row : Row) (rows : List Row) → length rows ≡ j → RowsSpelled v c x (row ∷ rows) → SpellsPair v c.old c.new words pair → IsPairInRange c.old c.new pair
      → IsModel v (behind (parts_of c a b) j x words n).net → formula_true v (break_units (scan_at (parts_of c a b) x words n).lits (behind (parts_of c a b) j x words n).scans) ≡ true
      → IsBreakFrom c.old c.new c.relation pair (row ∷ rows)
  break_found zero x words n pair row (next ∷ rows) len r h inside m k = absurd (omega arith)
  break_found (suc j) x words n pair row [] len r h inside m k = absurd (omega arith)
  break_found zero x words n pair row [] len r h inside m k =
      let s = scan_at (parts_of c a b) x words n in
      let inputs = row_words c x in
      let m_begun : IsModel v (begun_at (parts_of c a b) x words n) = IsModel-front v (begun_at (parts_of c a b) x words n) s.net (extends_rest (parts_of c a b) inputs words n) m in
      let parts = and_parts (formula_true v (row_units s.lits)) (formula_true v (some_fails s.lits.relates ∷ [])) (sym (formula-append v (row_units s.lits) (some_fails s.lits.relates ∷ [])) ∙ k) in
      let allowed : is_allowed c.relation row pair ≡ true = sym (row_true v c t a b is_a is_b inputs words pair row n h r.0 inside m_begun) ∙ parts.0 in
      let fits = allowed_fits c pair row allowed in
      let left = from_not (all_of (truths v s.lits.relates)) (sym (some_fails-true v s.lits.relates) ∙ parts.1) in
      (allowed, sym (relates_true v c t a b is_a is_b inputs words pair row n h r.0 inside fits m) ∙ left)
  break_found (suc j) x words n pair row (next ∷ rows) len r h inside m k =
      let s = scan_at (parts_of c a b) x words n in
      let inputs = row_words c x in
      let y = x + line_bits c in
      let s' = scan_at (parts_of c a b) y s.pair s.net in
      let ss = behind (parts_of c a b) j y s.pair s.net in
      let m_next : IsModel v s'.net = IsModel-front v s'.net ss.net (extends_last (parts_of c a b) j y s.pair s.net) m in
      let m_scan : IsModel v s.net = IsModel-front v s.net s'.net (extends_scan_from (parts_of c a b) (row_words c y) s.pair s.net) m_next in
      let m_begun : IsModel v (begun_at (parts_of c a b) x words n) = IsModel-front v (begun_at (parts_of c a b) x words n) s.net (extends_rest (parts_of c a b) inputs words n) m_scan in
      let parts = and_parts (formula_true v (row_units s.lits ++ units s.lits.relates)) (formula_true v (break_units s'.lits ss.scans)) (sym (formula-append v (row_units s.lits ++ units s.lits.relates) (break_units s'.lits ss.scans)) ∙ k) in
      let first = and_parts (formula_true v (row_units s.lits)) (formula_true v (units s.lits.relates)) (sym (formula-append v (row_units s.lits) (units s.lits.relates)) ∙ parts.0) in
      let allowed : is_allowed c.relation row pair ≡ true = sym (row_true v c t a b is_a is_b inputs words pair row n h r.0 inside m_begun) ∙ first.0 in
      let fits = allowed_fits c pair row allowed in
      let related : is_related c.relation (after_row c.old c.new c.relation row pair) ≡ true = sym (relates_true v c t a b is_a is_b inputs words pair row n h r.0 inside fits m_scan) ∙ sym (units-true v s.lits.relates) ∙ first.1 in
      let shorter : length rows ≡ j = omega arith in
      let rest =
      break_found j y s.pair s.net (after_row c.old c.new c.relation row pair) next rows shorter r.1 (spells_behind v c t a b is_a is_b inputs words pair row n h r.0 inside fits m_scan)
      (inside_behind v c t a b is_a is_b inputs words pair row n h r.0 inside fits) m parts.1 in
      (allowed, related, rest)

  pub break_asked : (j x : ℕ) (words : PairWords) (n : Netlist) (pair : Pair) (row : Row) (rows : List Row) → length rows ≡ j → RowsSpelled v c x (row ∷ rows) → SpellsPair v c.old c.new words pair → IsPairInRange c.old c.new pair
      → IsModel v (behind (parts_of c a b) j x words n).net → IsBreakFrom c.old c.new c.relation pair (row ∷ rows)
      → formula_true v (break_units (scan_at (parts_of c a b) x words n).lits (behind (parts_of c a b) j x words n).scans) ≡ true
  break_asked zero x words n pair row (next ∷ rows) len r h inside m k = absurd (omega arith)
  break_asked (suc j) x words n pair row [] len r h inside m k = absurd (omega arith)
  break_asked zero x words n pair row [] len r h inside m k =
      let s = scan_at (parts_of c a b) x words n in
      let inputs = row_words c x in
      let m_begun : IsModel v (begun_at (parts_of c a b) x words n) = IsModel-front v (begun_at (parts_of c a b) x words n) s.net (extends_rest (parts_of c a b) inputs words n) m in
      let fits = allowed_fits c pair row k.0 in
      formula-append v (row_units s.lits) (some_fails s.lits.relates ∷ [])
      ∙ and_from _ _ (row_true v c t a b is_a is_b inputs words pair row n h r.0 inside m_begun ∙ k.0)
      (some_fails-true v s.lits.relates ∙ to_not _ (relates_true v c t a b is_a is_b inputs words pair row n h r.0 inside fits m ∙ k.1))
  break_asked (suc j) x words n pair row (next ∷ rows) len r h inside m k =
      let s = scan_at (parts_of c a b) x words n in
      let inputs = row_words c x in
      let y = x + line_bits c in
      let s' = scan_at (parts_of c a b) y s.pair s.net in
      let ss = behind (parts_of c a b) j y s.pair s.net in
      let m_next : IsModel v s'.net = IsModel-front v s'.net ss.net (extends_last (parts_of c a b) j y s.pair s.net) m in
      let m_scan : IsModel v s.net = IsModel-front v s.net s'.net (extends_scan_from (parts_of c a b) (row_words c y) s.pair s.net) m_next in
      let m_begun : IsModel v (begun_at (parts_of c a b) x words n) = IsModel-front v (begun_at (parts_of c a b) x words n) s.net (extends_rest (parts_of c a b) inputs words n) m_scan in
      let fits = allowed_fits c pair row k.0 in
      let shorter : length rows ≡ j = omega arith in
      formula-append v (row_units s.lits ++ units s.lits.relates) (break_units s'.lits ss.scans)
      ∙ and_from _ _
      (formula-append v (row_units s.lits) (units s.lits.relates)
      ∙ and_from _ _ (row_true v c t a b is_a is_b inputs words pair row n h r.0 inside m_begun ∙ k.0)
      (units-true v s.lits.relates ∙ relates_true v c t a b is_a is_b inputs words pair row n h r.0 inside fits m_scan ∙ k.1))
      (break_asked j y s.pair s.net (after_row c.old c.new c.relation row pair) next rows shorter r.1 (spells_behind v c t a b is_a is_b inputs words pair row n h r.0 inside fits m_scan)
      (inside_behind v c t a b is_a is_b inputs words pair row n h r.0 inside fits) m k.2)
