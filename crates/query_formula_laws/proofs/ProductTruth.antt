-- In every model of the circuit of one scan, its literals tell what holds of the pair and the row that its words spell.
use Rattle.std.proofs.Common.{◌≡◌, ℕ, Bool, true, not, ◌&&◌, refl, sym, ◌∙◌, ap, List, [], ◌∷◌, ◌++◌, map}
use Rattle.std.specs.Prelude.{All}
use Rattle.std.specs.List.{list_any}
use Rattle.std.proofs.lemmas.List.Elements.{All-head, All-tail, All-nil, All-cons}
use Rattle.clause_core.specs.Satisfaction.{literal_true}
use Rattle.program_tree.specs.Tree.{Expression, CellData}
use Rattle.meaning.specs.Values.{State}
use Rattle.scan_model.specs.Scans.{ranges_of}
use Rattle.scan_model.specs.InRange.{Row}
use Rattle.scan_model.specs.Pairs.{CandidateData, Pair, IsPairInRange, holds, all_hold, fits_lines, is_related, loaded, scanned_both, after_row}
use Rattle.scan_model.proofs.Keeping.{IsInRange-scanned, IsPairInRange-loaded}
use Rattle.queries.specs.Comparisons.{Comparison}
use Rattle.queries.specs.Ranges.{are_in_range, is_pair_in_range}
use Rattle.gates.specs.Netlists.{Netlist}
use Rattle.gates.specs.Models.{IsModel}
use Rattle.gates.proofs.Growth.{IsModel-front}
use Rattle.node_core.specs.Scans.{ScanData}
use Rattle.node_circuits.specs.NodeWords.{Words}
use Rattle.query_formulas.specs.CellShapes.{shapes_of}
use Rattle.query_formulas.specs.Parts.{clauses_of, cells_of, lines_cells, parts_of}
use Rattle.query_formulas.specs.PairWords.{PairWords, loaded_words}
use Rattle.query_formulas.specs.Literals.{outside_cells, pair_literals}
use Rattle.query_formulas.specs.PairScans.{scanned_pair}
use Rattle.query_formulas.specs.Products.{ProductLits, product_from}
use Rattle.query_formulas.proofs.Growth.{extends_outside_cells, extends_pair_literals, extends_scans}
use Rattle.query_formula_laws.specs.TypedComparisons.{IsTypedCell, IsClauseOf, IsTypedComparison, IsScanOf}
use Rattle.query_formula_laws.proofs.Spelled.{Spells, SpellsPair, spells_loaded, fits_cells, lines_typed}
use Rattle.query_formula_laws.proofs.Outside.{either-any, outside_cells-any}
use Rattle.query_formula_laws.proofs.PairClauses.{clauses_hold}
use Rattle.query_formula_laws.proofs.ScanWords.{spells_both}
use Rattle.query_formula_laws.proofs.FormulaTruth.{all_of, truths, holding}

-- ---- lists of clauses

pub all_hold-truths : (es : List Expression) (pair : Pair) → all_of (map (λ e. holds e pair) es) ≡ all_hold es pair
all_hold-truths [] pair = refl
all_hold-truths (e ∷ es) pair = ap (λ (b : Bool). holds e pair && b) (all_hold-truths es pair)

abbrev pub clauses_in : List CandidateData → List Expression
clauses_in cs = map (λ k. k.clause) cs

holding-clauses : (cs : List CandidateData) (pair : Pair) → map (λ e. holds e pair) (clauses_in cs) ≡ holding cs pair
holding-clauses [] pair = refl
holding-clauses (c ∷ cs) pair = ap (λ (bs : List Bool). holds c.clause pair ∷ bs) (holding-clauses cs pair)

typed_clauses_in : (c : Comparison) (cs : List CandidateData) → All (λ k. IsClauseOf c k.clause) cs → All (IsClauseOf c) (clauses_in cs)
typed_clauses_in c [] h = All-nil (IsClauseOf c)
typed_clauses_in c (k ∷ cs) h =
    All-cons (IsClauseOf c) k.clause (clauses_in cs) (All-head (λ (x : CandidateData). IsClauseOf c x.clause) k cs h) (typed_clauses_in c cs (All-tail (λ (x : CandidateData). IsClauseOf c x.clause) k cs h))

-- ---- a row and a scan

module _ (c : Comparison) (t : IsTypedComparison c) where
  candidates_typed : All (IsClauseOf c) (clauses_in c.relation.candidates)
  candidates_typed = typed_clauses_in c c.relation.candidates t.candidates

  pub loaded_inside : (row : Row) (pair : Pair) → IsPairInRange c.old c.new pair → fits_lines c.relation.inputs row ≡ true → IsPairInRange c.old c.new (loaded c.relation.inputs row pair)
  loaded_inside row pair inside fits = IsPairInRange-loaded c.old c.new c.relation.inputs row pair t.comparison.relatable.belongs fits inside

  pub scanned_inside : (pair : Pair) → IsPairInRange c.old c.new pair → IsPairInRange c.old c.new (scanned_both c.old c.new pair)
  scanned_inside pair inside =
      (IsInRange-scanned c.old t.comparison.relatable.old_is_program pair.old inside.0, IsInRange-scanned c.new t.comparison.relatable.new_is_program pair.new inside.1)

module _ (v : ℕ → Bool) (c : Comparison) (t : IsTypedComparison c) where
  -- the words that a row is loaded into
  pub row_loaded : (inputs : Words) (row : Row) (words : PairWords) (pair : Pair) → Spells v (lines_cells c) inputs row → SpellsPair v c.old c.new words pair → SpellsPair v c.old c.new (loaded_words c.relation.inputs inputs words) (loaded c.relation.inputs row pair)
  row_loaded inputs row words pair r h = spells_loaded v c.old c.new c.relation.inputs inputs row words pair t.comparison.relatable.belongs t.alike r h

  -- the literals of clauses
  pub candidate_truths : (words : PairWords) (pair : Pair) (n : Netlist) → SpellsPair v c.old c.new words pair → IsPairInRange c.old c.new pair → IsModel v (pair_literals words (clauses_of (cells_of c) (clauses_in c.relation.candidates)) n).net
      → truths v (pair_literals words (clauses_of (cells_of c) (clauses_in c.relation.candidates)) n).lits ≡ holding c.relation.candidates pair
  candidate_truths words pair n h inside m = clauses_hold v c t words pair h inside (clauses_in c.relation.candidates) n (candidates_typed c t) m ∙ holding-clauses c.relation.candidates pair

  pub clause_truths : (words : PairWords) (pair : Pair) (es : List Expression) (n : Netlist) → SpellsPair v c.old c.new words pair → IsPairInRange c.old c.new pair → All (IsClauseOf c) es → IsModel v (pair_literals words (clauses_of (cells_of c) es) n).net
      → all_of (truths v (pair_literals words (clauses_of (cells_of c) es) n).lits) ≡ all_hold es pair
  clause_truths words pair es n h inside are m = ap all_of (clauses_hold v c t words pair h inside es n are m) ∙ all_hold-truths es pair

  -- the literals of ranges
  pub cells_outside : (cells : List CellData) (words : Words) (s : State) (n : Netlist) → All IsTypedCell cells → Spells v cells words s → IsModel v (outside_cells (shapes_of cells) words n).net
      → list_any (literal_true v) (outside_cells (shapes_of cells) words n).lits ≡ not (are_in_range (ranges_of cells) s)
  cells_outside cells words s n typed h m = outside_cells-any v cells words n typed h.widths m ∙ ap (λ (x : State). not (are_in_range (ranges_of cells) x)) h.values

  -- a row's: one is true exactly where the row does not fit
  pub row_outside : (inputs : Words) (row : Row) (n : Netlist) → Spells v (lines_cells c) inputs row → IsModel v (outside_cells (shapes_of (lines_cells c)) inputs n).net
      → list_any (literal_true v) (outside_cells (shapes_of (lines_cells c)) inputs n).lits ≡ not (fits_lines c.relation.inputs row)
  row_outside inputs row n r m = cells_outside (lines_cells c) inputs row n (lines_typed c t) r m ∙ ap not (sym (fits_cells c.old c.new c.relation.inputs row t.comparison.relatable.belongs))

-- ---- one scan from any pair

pub record ProductTruth (v : ℕ → Bool) (c : Comparison) (p : ProductLits) (pair : Pair) (row : Row) : Type 0 where
  pub outside : list_any (literal_true v) p.outside ≡ not (is_pair_in_range c.old c.new pair && fits_lines c.relation.inputs row)
  pub before : IsPairInRange c.old c.new pair → truths v p.before ≡ holding c.relation.candidates pair
  pub environment : IsPairInRange c.old c.new pair → fits_lines c.relation.inputs row ≡ true → all_of (truths v p.environment) ≡ all_hold c.relation.environment (loaded c.relation.inputs row pair)
  pub after : IsPairInRange c.old c.new pair → fits_lines c.relation.inputs row ≡ true → truths v p.after ≡ holding c.relation.candidates (after_row c.old c.new c.relation row pair)
  pub relates : IsPairInRange c.old c.new pair → fits_lines c.relation.inputs row ≡ true → all_of (truths v p.relates) ≡ is_related c.relation (after_row c.old c.new c.relation row pair)

module _ (v : ℕ → Bool) (c : Comparison) (t : IsTypedComparison c) (a b : ScanData) (is_a : IsScanOf c.old a) (is_b : IsScanOf c.new b) where
  pub product_truth : (words : PairWords) (inputs : Words) (pair : Pair) (row : Row) (n : Netlist) → SpellsPair v c.old c.new words pair → Spells v (lines_cells c) inputs row → IsModel v (product_from (parts_of c a b) words inputs n).net
      → ProductTruth v c (product_from (parts_of c a b) words inputs n) pair row
  product_truth words inputs pair row n h r model =
      let parts = parts_of c a b in
      let of_old = outside_cells parts.old words.old n in
      let of_new = outside_cells parts.new words.new of_old.net in
      let of_row = outside_cells parts.lines inputs of_new.net in
      let before = pair_literals words parts.candidates of_row.net in
      let put = loaded_words c.relation.inputs inputs words in
      let environment = pair_literals put parts.environment before.net in
      let behind = scanned_pair a b put environment.net in
      let after = pair_literals behind.pair parts.candidates behind.net in
      let m_after : IsModel v after.net = IsModel-front v after.net _ (extends_pair_literals behind.pair parts.relates after.net) model in
      let m_behind : IsModel v behind.net = IsModel-front v behind.net after.net (extends_pair_literals behind.pair parts.candidates behind.net) m_after in
      let m_environment : IsModel v environment.net = IsModel-front v environment.net behind.net (extends_scans a b put environment.net) m_behind in
      let m_before : IsModel v before.net = IsModel-front v before.net environment.net (extends_pair_literals put parts.environment before.net) m_environment in
      let m_row : IsModel v of_row.net = IsModel-front v of_row.net before.net (extends_pair_literals words parts.candidates of_row.net) m_before in
      let m_new : IsModel v of_new.net = IsModel-front v of_new.net of_row.net (extends_outside_cells parts.lines inputs of_new.net) m_row in
      let m_old : IsModel v of_old.net = IsModel-front v of_old.net of_new.net (extends_outside_cells parts.new words.new of_old.net) m_new in
      let held = row_loaded v c t inputs row words pair r h in
      let next = λ (inside : IsPairInRange c.old c.new pair) (fits : fits_lines c.relation.inputs row ≡ true). spells_both v c.old c.new a b put (loaded c.relation.inputs row pair) environment.net is_a is_b held (loaded_inside c t row pair inside fits) m_behind in
      record {
        outside =
            either-any v (of_old.lits ++ of_new.lits) of_row.lits (is_pair_in_range c.old c.new pair) (fits_lines c.relation.inputs row)
            (either-any v of_old.lits of_new.lits (are_in_range (ranges_of c.old.cells) pair.old) (are_in_range (ranges_of c.new.cells) pair.new) (cells_outside v c t c.old.cells words.old pair.old n t.old_cells h.old m_old) (cells_outside v c t c.new.cells words.new pair.new of_old.net t.new_cells h.new m_new))
            (row_outside v c t inputs row of_new.net r m_row);
        before = λ inside. candidate_truths v c t words pair of_row.net h inside m_before;
        environment = λ inside fits. clause_truths v c t put (loaded c.relation.inputs row pair) c.relation.environment before.net held (loaded_inside c t row pair inside fits) t.environment m_environment;
        after = λ inside fits. candidate_truths v c t behind.pair (after_row c.old c.new c.relation row pair) behind.net (next inside fits) (scanned_inside c t _ (loaded_inside c t row pair inside fits)) m_after;
        relates = λ inside fits. clause_truths v c t behind.pair (after_row c.old c.new c.relation row pair) c.relation.relates after.net (next inside fits) (scanned_inside c t _ (loaded_inside c t row pair inside fits)) t.relates model;
      }
