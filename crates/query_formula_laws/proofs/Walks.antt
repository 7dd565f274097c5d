-- Runs of scans: the clauses of allowed rows are true exactly where the rows that the words spell are allowed, one after the other.
use Rattle.std.proofs.Common.{◌≡◌, ℕ, zero, suc, ◌+◌, Bool, true, refl, sym, ◌∙◌, List, [], ◌∷◌, length, arith}
use Rattle.std.proofs.lemmas.Bool.{and_parts, and_from}
use Rattle.clause_core.specs.Satisfaction.{formula_true}
use Rattle.scan_model.specs.InRange.{Row}
use Rattle.scan_model.specs.Pairs.{Pair, IsPairInRange, is_allowed, after_row}
use Rattle.scan_model.specs.Verdicts.{AreAllowedFrom}
use Rattle.queries.specs.Comparisons.{Comparison}
use Rattle.gates.specs.Netlists.{Netlist}
use Rattle.gates.specs.Models.{IsModel}
use Rattle.gates.proofs.Growth.{IsModel-front}
use Rattle.node_core.specs.Scans.{ScanData}
use Rattle.query_formulas.specs.Parts.{parts_of}
use Rattle.query_formulas.specs.PairWords.{PairWords}
use Rattle.query_formulas.specs.QueryClauses.{row_units, walk_units}
use Rattle.query_formulas.proofs.Growth.{extends_rest}
use Rattle.query_formula_laws.specs.TypedComparisons.{IsTypedComparison, IsScanOf}
use Rattle.query_formula_laws.proofs.Spelled.{SpellsPair}
use Rattle.query_formula_laws.proofs.FormulaTruth.{formula-append}
use Rattle.query_formula_laws.proofs.Given.{allowed_fits}
use Rattle.query_formula_laws.proofs.ScanTruth.{row_true, spells_behind, inside_behind}
use Rattle.query_formula_laws.proofs.Begun.{line_bits}
use Rattle.query_formula_laws.proofs.Runs.{scan_at, begun_at, behind, walked_net, extends_walk}
use Rattle.query_formula_laws.proofs.Deep.{row_words, RowsSpelled}

module _ (v : ℕ → Bool) (c : Comparison) (t : IsTypedComparison c) (a b : ScanData) (is_a : IsScanOf c.old a) (is_b : IsScanOf c.new b) where
  pub walk_found : (j x : ℕ) (words : PairWords) (n : Netlist) (pair : Pair) (row : Row) (rows : List Row) → length rows ≡ j → RowsSpelled v c x (row ∷ rows) → SpellsPair v c.old c.new words pair → IsPairInRange c.old c.new pair
      → IsModel v (walked_net (parts_of c a b) j x words n) → formula_true v (walk_units ((scan_at (parts_of c a b) x words n).lits ∷ (behind (parts_of c a b) j x words n).scans)) ≡ true
      → AreAllowedFrom c.old c.new c.relation pair (row ∷ rows)
  walk_found zero x words n pair row (next ∷ rows) len r h inside m k = absurd (omega arith)
  walk_found (suc j) x words n pair row [] len r h inside m k = absurd (omega arith)
  walk_found zero x words n pair row [] len r h inside m k =
      let s = scan_at (parts_of c a b) x words n in
      let parts = and_parts (formula_true v (row_units s.lits)) (formula_true v []) (sym (formula-append v (row_units s.lits) []) ∙ k) in
      (sym (row_true v c t a b is_a is_b (row_words c x) words pair row n h r.0 inside m) ∙ parts.0, tt)
  walk_found (suc j) x words n pair row (next ∷ rows) len r h inside m k =
      let s = scan_at (parts_of c a b) x words n in
      let inputs = row_words c x in
      let y = x + line_bits c in
      let s' = scan_at (parts_of c a b) y s.pair s.net in
      let ss = behind (parts_of c a b) j y s.pair s.net in
      let m_scan : IsModel v s.net = IsModel-front v s.net (walked_net (parts_of c a b) j y s.pair s.net) (extends_walk (parts_of c a b) j y s.pair s.net) m in
      let m_begun : IsModel v (begun_at (parts_of c a b) x words n) = IsModel-front v (begun_at (parts_of c a b) x words n) s.net (extends_rest (parts_of c a b) inputs words n) m_scan in
      let parts = and_parts (formula_true v (row_units s.lits)) (formula_true v (walk_units (s'.lits ∷ ss.scans))) (sym (formula-append v (row_units s.lits) (walk_units (s'.lits ∷ ss.scans))) ∙ k) in
      let allowed : is_allowed c.relation row pair ≡ true = sym (row_true v c t a b is_a is_b inputs words pair row n h r.0 inside m_begun) ∙ parts.0 in
      let fits = allowed_fits c pair row allowed in
      let shorter : length rows ≡ j = omega arith in
      let rest =
      walk_found j y s.pair s.net (after_row c.old c.new c.relation row pair) next rows shorter r.1 (spells_behind v c t a b is_a is_b inputs words pair row n h r.0 inside fits m_scan)
      (inside_behind v c t a b is_a is_b inputs words pair row n h r.0 inside fits) m parts.1 in
      (allowed, rest)

  pub walk_asked : (j x : ℕ) (words : PairWords) (n : Netlist) (pair : Pair) (row : Row) (rows : List Row) → length rows ≡ j → RowsSpelled v c x (row ∷ rows) → SpellsPair v c.old c.new words pair → IsPairInRange c.old c.new pair
      → IsModel v (walked_net (parts_of c a b) j x words n) → AreAllowedFrom c.old c.new c.relation pair (row ∷ rows)
      → formula_true v (walk_units ((scan_at (parts_of c a b) x words n).lits ∷ (behind (parts_of c a b) j x words n).scans)) ≡ true
  walk_asked zero x words n pair row (next ∷ rows) len r h inside m k = absurd (omega arith)
  walk_asked (suc j) x words n pair row [] len r h inside m k = absurd (omega arith)
  walk_asked zero x words n pair row [] len r h inside m k =
      let s = scan_at (parts_of c a b) x words n in
      formula-append v (row_units s.lits) [] ∙ and_from _ _ (row_true v c t a b is_a is_b (row_words c x) words pair row n h r.0 inside m ∙ k.0) refl
  walk_asked (suc j) x words n pair row (next ∷ rows) len r h inside m k =
      let s = scan_at (parts_of c a b) x words n in
      let inputs = row_words c x in
      let y = x + line_bits c in
      let s' = scan_at (parts_of c a b) y s.pair s.net in
      let ss = behind (parts_of c a b) j y s.pair s.net in
      let m_scan : IsModel v s.net = IsModel-front v s.net (walked_net (parts_of c a b) j y s.pair s.net) (extends_walk (parts_of c a b) j y s.pair s.net) m in
      let m_begun : IsModel v (begun_at (parts_of c a b) x words n) = IsModel-front v (begun_at (parts_of c a b) x words n) s.net (extends_rest (parts_of c a b) inputs words n) m_scan in
      let fits = allowed_fits c pair row k.0 in
      let shorter : length rows ≡ j = omega arith in
      formula-append v (row_units s.lits) (walk_units (s'.lits ∷ ss.scans))
      ∙ and_from _ _ (row_true v c t a b is_a is_b inputs words pair row n h r.0 inside m_begun ∙ k.0)
      (walk_asked j y s.pair s.net (after_row c.old c.new c.relation row pair) next rows shorter r.1 (spells_behind v c t a b is_a is_b inputs words pair row n h r.0 inside fits m_scan)
      (inside_behind v c t a b is_a is_b inputs words pair row n h r.0 inside fits) m k.1)
