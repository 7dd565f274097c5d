-- The literals of clauses over a pair of words are true exactly where the clauses hold on the pair.
use Rattle.std.proofs.Common.{◌≡◌, ℕ, Bool, refl, sym, ◌∙◌, ap, subst, List, [], ◌∷◌, ◌++◌, map, length-append}
use Rattle.std.specs.Prelude.{All}
use Rattle.std.proofs.lemmas.List.Elements.{All-head, All-tail, All-append, All-nil, All-cons}
use Rattle.clause_core.specs.Satisfaction.{literal_true}
use Rattle.plc_types.specs.declared.range.Range.{Range}
use Rattle.program_tree.specs.Tree.{Expression, CellData}
use Rattle.meaning.specs.Values.{State}
use Rattle.scan_model.specs.Scans.{ranges_of}
use Rattle.scan_model.specs.InRange.{IsInRange}
use Rattle.scan_model.specs.Pairs.{Pair, IsPairInRange, holds}
use Rattle.queries.specs.Comparisons.{Comparison}
use Rattle.gates.specs.Netlists.{Netlist}
use Rattle.gates.specs.Models.{IsModel}
use Rattle.gates.proofs.Growth.{IsModel-front}
use Rattle.program_tree.specs.Places.{of_cell, IsTypedPlace}
use Rattle.node_core.specs.Scans.{clause_of}
use Rattle.query_formulas.specs.Parts.{clauses_of, cells_of}
use Rattle.query_formulas.specs.PairWords.{PairWords, clause_words}
use Rattle.query_formulas.specs.Literals.{clause_literal, pair_literals}
use Rattle.query_formulas.proofs.Growth.{extends_pair_literals}
use Rattle.query_formula_laws.specs.TypedComparisons.{IsTypedCell, IsClauseOf, IsTypedComparison}
use Rattle.query_formula_laws.proofs.Spelled.{SpellsPair, Spells-append}
use Rattle.query_formula_laws.proofs.ClauseTruth.{starts_of, literal_holds}

-- ---- both programs' cells

pub IsInRange-append : (rs qs : List Range) (s t : State) → IsInRange rs s → IsInRange qs t → IsInRange (rs ++ qs) (s ++ t)
IsInRange-append [] qs [] t h k = k
IsInRange-append [] qs (x ∷ s) t h k = absurd h
IsInRange-append (r ∷ rs) qs [] t h k = absurd h
IsInRange-append (r ∷ rs) qs (x ∷ s) t h k = (h.0, h.1, IsInRange-append rs qs s t h.2 k)

pub ranges-append : (cs ds : List CellData) → ranges_of (cs ++ ds) ≡ ranges_of cs ++ ranges_of ds
ranges-append [] ds = refl
ranges-append (c ∷ cs) ds = ap (λ (rs : List Range). c.range ∷ rs) (ranges-append cs ds)

places_typed : (cs : List CellData) → All IsTypedCell cs → All IsTypedPlace (map of_cell cs)
places_typed [] h = All-nil IsTypedPlace
places_typed (c ∷ cs) h = let here = All-head IsTypedCell c cs h in All-cons IsTypedPlace (of_cell c) (map of_cell cs) here.place (places_typed cs (All-tail IsTypedCell c cs h))

-- ---- truth

module _ (v : ℕ → Bool) (c : Comparison) (t : IsTypedComparison c) (words : PairWords) (pair : Pair) (h : SpellsPair v c.old c.new words pair) (inside : IsPairInRange c.old c.new pair) where
  clause_holds : (e : Expression) (n : Netlist) → IsClauseOf c e → IsModel v (clause_literal (clause_words words) (clause_of (cells_of c) e) n).net → literal_true v (clause_literal (clause_words words) (clause_of (cells_of c) e) n).lit ≡ holds e pair
  clause_holds e n is m =
      let ws = words.old ++ words.new in
      let cells = c.old.cells ++ c.new.cells in
      let s = pair.old ++ pair.new in
      let both = Spells-append v c.old.cells c.new.cells words.old words.new pair.old pair.new h.old h.new in
      let in_both : IsInRange (ranges_of cells) s = subst (λ (rs : List Range). IsInRange rs s) (sym (ranges-append c.old.cells c.new.cells)) (IsInRange-append (ranges_of c.old.cells) (ranges_of c.new.cells) pair.old pair.new inside.0 inside.1) in
      let places = places_typed cells (All-append IsTypedCell c.old.cells c.new.cells t.old_cells t.new_cells) in
      subst (λ (k : ℕ). IsModel v (clause_literal (starts_of ws) (clause_of k e) n).net → literal_true v (clause_literal (starts_of ws) (clause_of k e) n).lit ≡ holds e pair) (length-append c.old.cells c.new.cells)
      (λ model. literal_holds v cells ws s e n places is.typed is.reads both in_both model) m

  -- each literal is its clause
  pub clauses_hold : (es : List Expression) (n : Netlist) → All (IsClauseOf c) es → IsModel v (pair_literals words (clauses_of (cells_of c) es) n).net → map (literal_true v) (pair_literals words (clauses_of (cells_of c) es) n).lits ≡ map (λ e. holds e pair) es
  clauses_hold [] n are m = refl
  clauses_hold (e ∷ es) n are m =
      let first = clause_literal (clause_words words) (clause_of (cells_of c) e) n in
      let here = clause_holds e n (All-head (IsClauseOf c) e es are) (IsModel-front v first.net _ (extends_pair_literals words (clauses_of (cells_of c) es) first.net) m) in
      let rest = clauses_hold es first.net (All-tail (IsClauseOf c) e es are) m in
      ap (λ (b : Bool). b ∷ map (literal_true v) (pair_literals words (clauses_of (cells_of c) es) first.net).lits) here ∙ ap (λ (bs : List Bool). holds e pair ∷ bs) rest
