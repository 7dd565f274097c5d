-- The circuit of one scan of a run: its literals tell whether the row is allowed, and whether the pair behind it is related.
use Rattle.std.proofs.Common.{◌≡◌, ℕ, ◌+◌, ◌-◌, Bool, true, false, not, ◌&&◌, refl, ◌∙◌, ap, subst, List, length}
use Rattle.std.specs.Prelude.{All}
use Rattle.clause_core.specs.declared.literal.Lit.{Lit}
use Rattle.clause_core.specs.Satisfaction.{formula_true}
use Rattle.scan_model.specs.InRange.{Row}
use Rattle.scan_model.specs.Pairs.{Pair, IsPairInRange, fits_lines, all_hold, loaded, is_allowed, is_related, after_row}
use Rattle.queries.specs.Comparisons.{Comparison}
use Rattle.gates.specs.Netlists.{Netlist}
use Rattle.gates.specs.Order.{IsOrdered}
use Rattle.gates.specs.Models.{IsModel}
use Rattle.gates.proofs.Growth.{extends_self, extends_then, IsModel-front}
use Rattle.node_core.specs.Scans.{ScanData}
use Rattle.node_circuits.specs.NodeWords.{Words}
use Rattle.word_orders.specs.Orders.{IsWordOf}
use Rattle.query_formulas.specs.Parts.{Parts, lines_cells, parts_of}
use Rattle.query_formulas.specs.PairWords.{PairWords, loaded_words}
use Rattle.query_formulas.specs.Literals.{outside_cells, pair_literals}
use Rattle.query_formulas.specs.PairScans.{scanned_pair}
use Rattle.query_formulas.specs.Breaks.{MadeScan, scan_from}
use Rattle.query_formulas.specs.QueryClauses.{AreInside, IsScanInside, negations, units, row_units}
use Rattle.query_formulas.proofs.Growth.{begun_net, extends_pair_literals}
use Rattle.query_formula_laws.specs.TypedComparisons.{IsTypedComparison, IsScanOf}
use Rattle.query_formula_laws.proofs.Spelled.{Spells, SpellsPair}
use Rattle.query_formula_laws.proofs.ScanWords.{spells_both}
use Rattle.query_formula_laws.proofs.FormulaTruth.{twice, all_of, truths, units-true, negations-true, formula-append}
use Rattle.query_formula_laws.proofs.ProductTruth.{row_loaded, loaded_inside, scanned_inside, clause_truths, row_outside}
use Rattle.query_formula_laws.proofs.Orders.{After, PairOf, pair_later, loaded_of, inside_later, makes_cells, makes_pair, after_pair}

-- ---- order

pub record ScanAfter (n before : Netlist) (m : MadeScan) : Type 0 where
  pub begun : After n before
  pub net : After n m.net
  pub pair : PairOf m.net m.pair
  pub inside : IsScanInside n.first m.lits

from_first : (first later count : ℕ) (ls : List Lit) → later ≡ first → AreInside (later - 1 + count) ls → AreInside (first - 1 + count) ls
from_first first later count ls e h = subst (λ (f : ℕ). AreInside (f - 1 + count) ls) e h

pub after_scan : (parts : Parts) (inputs : Words) (words : PairWords) (n : Netlist) → IsOrdered n → PairOf n words → All (IsWordOf n) inputs → ScanAfter n (begun_net parts inputs words n) (scan_from parts inputs words n)
after_scan parts inputs words n o h r =
    let outside = outside_cells parts.lines inputs n in
    let put = loaded_words parts.inputs inputs words in
    let environment = pair_literals put parts.environment outside.net in
    let behind = scanned_pair parts.old_scan parts.new_scan put environment.net in
    let relates = pair_literals behind.pair parts.relates behind.net in
    let one = makes_cells parts.lines inputs n o r in
    let on_put = pair_later n outside.net put one.after.extends (loaded_of n parts.inputs inputs words r h) in
    let two = makes_pair put parts.environment outside.net one.after.ordered on_put in
    let scan = after_pair parts.old_scan parts.new_scan put environment.net two.after.ordered (pair_later outside.net environment.net put two.after.extends on_put) in
    let four = makes_pair behind.pair parts.relates behind.net scan.after.ordered scan.pair_of in
    let to_environment = extends_then n outside.net environment.net one.after.extends two.after.extends in
    let to_behind = extends_then n environment.net behind.net to_environment scan.after.extends in
    let to_relates = extends_then n behind.net relates.net to_behind four.after.extends in
    record {
      begun = record { extends = to_environment; ordered = two.after.ordered };
      net = record { extends = to_relates; ordered = four.after.ordered };
      pair = pair_later behind.net relates.net behind.pair four.after.extends scan.pair_of;
      inside = record {
        outside = from_first n.first environment.net.first (length environment.net.gates) outside.lits to_environment.first (inside_later outside.net environment.net outside.lits two.after.ordered two.after.extends one.literals);
        environment = from_first n.first environment.net.first (length environment.net.gates) environment.lits to_environment.first (inside_later environment.net environment.net environment.lits two.after.ordered (extends_self environment.net) two.literals);
        relates = from_first n.first relates.net.first (length relates.net.gates) relates.lits to_relates.first (inside_later relates.net relates.net relates.lits four.after.ordered (extends_self relates.net) four.literals);
      };
    }

-- ---- truth

both_fail : (p q r : Bool) → (p ≡ true → q ≡ r) → (p && q) ≡ (p && r)
both_fail true q r h = h refl
both_fail false q r h = refl

module _ (v : ℕ → Bool) (c : Comparison) (t : IsTypedComparison c) (a b : ScanData) (is_a : IsScanOf c.old a) (is_b : IsScanOf c.new b) (inputs : Words) (words : PairWords) (pair : Pair) (row : Row) (n : Netlist) (h : SpellsPair v c.old c.new words pair) (r : Spells v (lines_cells c) inputs row) (inside : IsPairInRange c.old c.new pair) where
  -- the clauses of a row are true exactly where it is allowed
  pub row_true : IsModel v (begun_net (parts_of c a b) inputs words n) → formula_true v (row_units (scan_from (parts_of c a b) inputs words n).lits) ≡ is_allowed c.relation row pair
  row_true m =
      let parts = parts_of c a b in
      let s = (scan_from parts inputs words n).lits in
      let outside = outside_cells parts.lines inputs n in
      let put = loaded_words c.relation.inputs inputs words in
      let m_outside : IsModel v outside.net = IsModel-front v outside.net _ (extends_pair_literals put parts.environment outside.net) m in
      let fits = fits_lines c.relation.inputs row in
      let out : formula_true v (units (negations s.outside)) ≡ fits =
      units-true v (negations s.outside) ∙ negations-true v s.outside ∙ ap not (row_outside v c t inputs row n r m_outside) ∙ twice fits in
      let env : fits ≡ true → formula_true v (units s.environment) ≡ all_hold c.relation.environment (loaded c.relation.inputs row pair) =
      λ e. units-true v s.environment
      ∙ clause_truths v c t put (loaded c.relation.inputs row pair) c.relation.environment outside.net (row_loaded v c t inputs row words pair r h) (loaded_inside c t row pair inside e) t.environment m in
      formula-append v (units (negations s.outside)) (units s.environment) ∙ ap (λ (q : Bool). q && formula_true v (units s.environment)) out
      ∙ both_fail fits (formula_true v (units s.environment)) (all_hold c.relation.environment (loaded c.relation.inputs row pair)) env

  -- the words behind the scan
  pub spells_behind : fits_lines c.relation.inputs row ≡ true → IsModel v (scan_from (parts_of c a b) inputs words n).net → SpellsPair v c.old c.new (scan_from (parts_of c a b) inputs words n).pair (after_row c.old c.new c.relation row pair)
  spells_behind fits m =
      let parts = parts_of c a b in
      let put = loaded_words c.relation.inputs inputs words in
      let begun = begun_net parts inputs words n in
      let behind = scanned_pair a b put begun in
      let m_behind : IsModel v behind.net = IsModel-front v behind.net _ (extends_pair_literals behind.pair parts.relates behind.net) m in
      spells_both v c.old c.new a b put (loaded c.relation.inputs row pair) begun is_a is_b (row_loaded v c t inputs row words pair r h) (loaded_inside c t row pair inside fits) m_behind

  pub inside_behind : fits_lines c.relation.inputs row ≡ true → IsPairInRange c.old c.new (after_row c.old c.new c.relation row pair)
  inside_behind fits = scanned_inside c t (loaded c.relation.inputs row pair) (loaded_inside c t row pair inside fits)

  -- the RELATE clauses
  pub relates_true : fits_lines c.relation.inputs row ≡ true → IsModel v (scan_from (parts_of c a b) inputs words n).net → all_of (truths v (scan_from (parts_of c a b) inputs words n).lits.relates) ≡ is_related c.relation (after_row c.old c.new c.relation row pair)
  relates_true fits m =
      let put = loaded_words c.relation.inputs inputs words in
      let behind = scanned_pair a b put (begun_net (parts_of c a b) inputs words n) in
      clause_truths v c t behind.pair (after_row c.old c.new c.relation row pair) c.relation.relates behind.net (spells_behind fits m) (inside_behind fits) t.relates m
