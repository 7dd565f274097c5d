-- Scans from the start: the formulas of FIRST, of DEEP and of WALK have solutions where there are answers, and each solution stands for one.
use Rattle.std.proofs.Common.{◌≡◌, ℕ, zero, suc, ◌+◌, ◌-◌, ◌*◌, ◌≤◌, Bool, true, false, refl, sym, ap, subst, List, [], ◌∷◌, ◌++◌, length, take, arith}
use Rattle.std.proofs.lemmas.List.{append-nil}
use Rattle.clause_core.specs.declared.literal.Lit.{Lit}
use Rattle.clause_core.specs.Formula.{Formula}
use Rattle.clause_core.specs.Satisfaction.{assigned, Satisfies}
use Rattle.scan_model.specs.InRange.{Row}
use Rattle.scan_model.specs.Pairs.{Pair, start, is_allowed, after_row}
use Rattle.scan_model.specs.Verdicts.{IsBreakFrom, AreAllowedFrom}
use Rattle.queries.specs.Comparisons.{Comparison}
use Rattle.queries.specs.Questions.{first, deep, walk}
use Rattle.queries.specs.Meaning.{HasAnswer}
use Rattle.gates.specs.Netlists.{Netlist, IsExtensionOf}
use Rattle.gates.specs.Order.{IsOrdered}
use Rattle.gates.specs.Models.{IsModel, extended, Agrees}
use Rattle.gates.proofs.Growth.{extends_then}
use Rattle.gates.proofs.OneModel.{ExtendsOnce_ordered}
use Rattle.node_core.specs.Scans.{ScanData}
use Rattle.query_formulas.specs.Parts.{parts_of}
use Rattle.query_formulas.specs.PairWords.{PairWords}
use Rattle.query_formulas.specs.Breaks.{ScanLiterals, MadeScan, Breaks, scans_from, start_words, breaks_bits, breaks_of}
use Rattle.query_formulas.specs.QueryClauses.{row_units, break_units, walk_units, last_count, last_begun, with_gates, begun_formula, first_formula, listed_formula, break_formula, walked_formula, walk_formula}
use Rattle.query_formulas.specs.Decoded.{IsAnswer, scans_decoded}
use Rattle.query_formula_laws.specs.TypedComparisons.{IsTypedComparison, IsScanOf}
use Rattle.query_formula_laws.proofs.FormulaTruth.{gates-model, model-gates}
use Rattle.query_formula_laws.proofs.Orders.{After}
use Rattle.query_formula_laws.proofs.Given.{row_types, allowed_fits}
use Rattle.query_formula_laws.proofs.Begun.{line_bits, start_inside, start_spelled, start_of}
use Rattle.query_formula_laws.proofs.Runs.{scan_at, behind, last_gates, walked_net, extends_walked, walked_gates, take_scans, extends_taken, walked_after, scans_after}
use Rattle.query_formula_laws.proofs.Deep.{RowsSpelled, row_read, rows_read, rows_read-spelled, length-rows_read, RowsTyped, rows_bits, rows_given, rows_agree, break_found, break_asked}
use Rattle.query_formula_laws.proofs.Walks.{walk_found as allowed_found, walk_asked as allowed_asked}

rows_typed : (c : Comparison) (t : IsTypedComparison c) (rows : List Row) (pair : Pair) → IsBreakFrom c.old c.new c.relation pair rows → RowsTyped c rows
rows_typed c t [] pair k = absurd k
rows_typed c t (row ∷ []) pair k = (row_types c t row (allowed_fits c pair row k.0), tt)
rows_typed c t (row ∷ next ∷ rows) pair k = (row_types c t row (allowed_fits c pair row k.0), rows_typed c t (next ∷ rows) (after_row c.old c.new c.relation row pair) k.2)

allowed_typed : (c : Comparison) (t : IsTypedComparison c) (rows : List Row) (pair : Pair) → AreAllowedFrom c.old c.new c.relation pair rows → RowsTyped c rows
allowed_typed c t [] pair k = tt
allowed_typed c t (row ∷ rows) pair k = (row_types c t row (allowed_fits c pair row k.0), allowed_typed c t rows (after_row c.old c.new c.relation row pair) k.1)

-- one row has the clauses of a first row
pub walked_one : (n : Netlist) (ss : List ScanLiterals) → walked_formula n (take 1 ss) ≡ begun_formula n ss
walked_one n [] = refl
walked_one n (s ∷ ss) = ap (λ (more : List (List Lit)). with_gates n s.begun more) (append-nil (row_units s))

module _ (c : Comparison) (t : IsTypedComparison c) (a b : ScanData) (is_a : IsScanOf c.old a) (is_b : IsScanOf c.new b) where
  -- ---- so many scans, in a circuit of more

  module _ (limit first_gate j : ℕ) (wide : 2 + suc j * line_bits c ≤ first_gate) (later : Netlist) where
    abbrev begin : PairWords
    begin = start_words (parts_of c a b)

    abbrev net : Netlist
    net = record { first = first_gate; limit = limit; gates = [] }

    ordered : IsOrdered net
    ordered = record { one = omega arith; ordered = refl }

    abbrev one : MadeScan
    one = scan_at (parts_of c a b) 2 begin net

    abbrev more : Breaks
    more = behind (parts_of c a b) j 2 begin net

    record Spelling (last : Netlist) (rows : List Row) : Type 0 where
      assignment : ℕ → Bool
      model : IsModel assignment last
      spelled : RowsSpelled assignment c 2 rows

    -- a model that spells rows
    spelling : (last : Netlist) → After net last → (rows : List Row) → length rows ≤ suc j → RowsTyped c rows → Spelling last rows
    spelling last after rows len typed =
        let front : List Bool = false ∷ true ∷ [] in
        let values = front ++ rows_bits c rows in
        let setting = assigned values in
        let given = rows_given c rows front [] values 2 typed (sym (append-nil values)) refl in
        let once = ExtendsOnce_ordered last setting after.ordered refl in
        let v = extended setting last.first last.gates in
        let agrees : Agrees first_gate v setting = subst (λ (x : ℕ). Agrees x v setting) after.extends.first once.keeps in
        record { assignment = v; model = once.model; spelled = rows_agree v setting c first_gate 2 rows agrees (enough (length rows) (suc j) (line_bits c) first_gate len wide) given }
      where
        enough : (l k s f : ℕ) → l ≤ k → 2 + k * s ≤ f → 2 + l * s ≤ f
        enough l k s f h w =
            let e : k ≡ l + (k - l) = omega arith in
            fits l (k - l) s f (subst (λ (m : ℕ). 2 + m * s ≤ f) e w)
          where
            fits : (l d s f : ℕ) → 2 + (l + d) * s ≤ f → 2 + l * s ≤ f
            fits l d s f h = omega arith

    -- ---- DEEP

    module _ (grown : IsExtensionOf more.net later) where
      deep_asked_of : (rows : List Row) → length rows ≡ suc j → IsBreakFrom c.old c.new c.relation (start c.old c.new) rows → (values : ℕ → Bool) × Satisfies values (listed_formula later (one.lits ∷ more.scans)).clauses
      deep_asked_of [] len k = absurd (omega arith)
      deep_asked_of (row ∷ rows) len k =
          let all = scans_after (parts_of c a b) (suc j) 2 begin net (omega arith) wide ordered (start_of net c a b ordered) in
          let s = spelling more.net all.after (row ∷ rows) (omega arith) (rows_typed c t (row ∷ rows) (start c.old c.new) k) in
          let v = s.assignment in
          let m = s.model in
          let shorter : length rows ≡ j = omega arith in (
            v,
            model-gates v more.net later (last_count one.lits more.scans) (break_units one.lits more.scans) grown (last_gates (parts_of c a b) j 2 begin net) m
                (break_asked v c t a b is_a is_b j 2 begin net (start c.old c.new) row rows shorter s.spelled (start_spelled v c a b t m.one) (start_inside c t) m k),
          )

      deep_decoded_of : (v : ℕ → Bool) → Satisfies v (listed_formula later (one.lits ∷ more.scans)).clauses
          → (length (rows_read v c (one.lits ∷ more.scans)) ≡ suc j) × IsBreakFrom c.old c.new c.relation (start c.old c.new) (rows_read v c (one.lits ∷ more.scans))
      deep_decoded_of v h =
          let is = gates-model v more.net later (last_count one.lits more.scans) (break_units one.lits more.scans) grown (last_gates (parts_of c a b) j 2 begin net) h in
          let m = is.0 in
          let rows = rows_read v c more.scans in
          let len : length rows ≡ j = length-rows_read v c a b j (2 + line_bits c) one.pair one.net in (
            ap suc len,
            break_found v c t a b is_a is_b j 2 begin net (start c.old c.new) (row_read v c one.lits.inputs) rows len (rows_read-spelled v c a b (suc j) 2 begin net) (start_spelled v c a b t m.one) (start_inside c t) m is.1,
          )

      -- ---- WALK

      abbrev walked : Netlist
      walked = walked_net (parts_of c a b) j 2 begin net

      to_later : IsExtensionOf walked later
      to_later = extends_then walked more.net later (extends_walked (parts_of c a b) j 2 begin net) grown

      walk_asked_of : (rows : List Row) → length rows ≡ suc j → AreAllowedFrom c.old c.new c.relation (start c.old c.new) rows → (values : ℕ → Bool) × Satisfies values (walked_formula later (one.lits ∷ more.scans)).clauses
      walk_asked_of [] len k = absurd (omega arith)
      walk_asked_of (row ∷ rows) len k =
          let after = walked_after (parts_of c a b) j 2 begin net (omega arith) wide ordered (start_of net c a b ordered) in
          let s = spelling walked after (row ∷ rows) (omega arith) (allowed_typed c t (row ∷ rows) (start c.old c.new) k) in
          let v = s.assignment in
          let m = s.model in
          let shorter : length rows ≡ j = omega arith in (
            v,
            model-gates v walked later (last_begun one.lits more.scans) (walk_units (one.lits ∷ more.scans)) to_later (walked_gates (parts_of c a b) j 2 begin net) m
                (allowed_asked v c t a b is_a is_b j 2 begin net (start c.old c.new) row rows shorter s.spelled (start_spelled v c a b t m.one) (start_inside c t) m k),
          )

      walk_decoded_of : (v : ℕ → Bool) → Satisfies v (walked_formula later (one.lits ∷ more.scans)).clauses
          → (length (rows_read v c (one.lits ∷ more.scans)) ≡ suc j) × AreAllowedFrom c.old c.new c.relation (start c.old c.new) (rows_read v c (one.lits ∷ more.scans))
      walk_decoded_of v h =
          let is = gates-model v walked later (last_begun one.lits more.scans) (walk_units (one.lits ∷ more.scans)) to_later (walked_gates (parts_of c a b) j 2 begin net) h in
          let m = is.0 in
          let rows = rows_read v c more.scans in
          let len : length rows ≡ j = length-rows_read v c a b j (2 + line_bits c) one.pair one.net in (
            ap suc len,
            allowed_found v c t a b is_a is_b j 2 begin net (start c.old c.new) (row_read v c one.lits.inputs) rows len (rows_read-spelled v c a b (suc j) 2 begin net) (start_spelled v c a b t m.one) (start_inside c t) m is.1,
          )

  -- ---- the circuit of DEPTH scans

  wider : (j d s : ℕ) → suc j ≤ d → 2 + suc j * s ≤ d * s + 2
  wider j d s h =
      let more : d ≡ suc j + (d - suc j) = omega arith in
      subst (λ (e : ℕ). 2 + suc j * s ≤ e * s + 2) (sym more) (bigger (suc j) (d - suc j) s)
    where
      bigger : (k e s : ℕ) → 2 + k * s ≤ (k + e) * s + 2
      bigger k e s = omega arith

  abbrev gate : ℕ
  gate = breaks_bits (parts_of c a b) + 2

  abbrev begin_net : ℕ → Netlist
  begin_net limit = record { first = gate; limit = limit; gates = [] }

  taken : (limit scans : ℕ) → scans ≤ c.relation.depth → (scans_from (parts_of c a b) scans 2 (start_words (parts_of c a b)) (begin_net limit)).scans ≡ take scans (breaks_of (parts_of c a b) limit).scans
  taken limit scans few = sym (take_scans (parts_of c a b) scans c.relation.depth 2 (start_words (parts_of c a b)) (begin_net limit) few)

  grown_to : (limit scans : ℕ) → scans ≤ c.relation.depth → IsExtensionOf (scans_from (parts_of c a b) scans 2 (start_words (parts_of c a b)) (begin_net limit)).net (breaks_of (parts_of c a b) limit).net
  grown_to limit scans few = extends_taken (parts_of c a b) scans c.relation.depth 2 (start_words (parts_of c a b)) (begin_net limit) few

  -- ---- DEEP

  -- what a solution spells is an answer
  pub deep_decoded : (limit scans : ℕ) → 1 ≤ scans → scans ≤ c.relation.depth → (v : ℕ → Bool) → Satisfies v (break_formula (breaks_of (parts_of c a b) limit) scans).clauses
      → IsAnswer c (deep scans) (scans_decoded (parts_of c a b) (breaks_of (parts_of c a b) limit).scans scans v)
  deep_decoded limit zero some few v = absurd (omega arith)
  deep_decoded limit (suc j) some few v =
      let all = breaks_of (parts_of c a b) limit in
      subst (λ (ss : List ScanLiterals). Satisfies v (listed_formula all.net ss).clauses → (length (rows_read v c ss) ≡ suc j) × IsBreakFrom c.old c.new c.relation (start c.old c.new) (rows_read v c ss)) (taken limit (suc j) few)
      (deep_decoded_of limit gate j (wider j c.relation.depth (line_bits c) few) all.net (grown_to limit (suc j) few) v)

  pub deep_asked : (limit scans : ℕ) → 1 ≤ scans → scans ≤ c.relation.depth → HasAnswer c (deep scans) → (values : ℕ → Bool) × Satisfies values (break_formula (breaks_of (parts_of c a b) limit) scans).clauses
  deep_asked limit zero some few answer = absurd (omega arith)
  deep_asked limit (suc j) some few answer =
      let all = breaks_of (parts_of c a b) limit in
      subst (λ (ss : List ScanLiterals). (values : ℕ → Bool) × Satisfies values (listed_formula all.net ss).clauses) (taken limit (suc j) few)
      (deep_asked_of limit gate j (wider j c.relation.depth (line_bits c) few) all.net (grown_to limit (suc j) few) answer.1 answer.2.0 answer.2.1)

  -- ---- WALK

  -- what a solution spells is an answer
  pub walk_decoded : (limit rows : ℕ) → 1 ≤ rows → rows ≤ c.relation.depth → (v : ℕ → Bool) → Satisfies v (walk_formula (breaks_of (parts_of c a b) limit) rows).clauses
      → IsAnswer c (walk rows) (scans_decoded (parts_of c a b) (breaks_of (parts_of c a b) limit).scans rows v)
  walk_decoded limit zero some few v = absurd (omega arith)
  walk_decoded limit (suc j) some few v =
      let all = breaks_of (parts_of c a b) limit in
      subst (λ (ss : List ScanLiterals). Satisfies v (walked_formula all.net ss).clauses → (length (rows_read v c ss) ≡ suc j) × AreAllowedFrom c.old c.new c.relation (start c.old c.new) (rows_read v c ss)) (taken limit (suc j) few)
      (walk_decoded_of limit gate j (wider j c.relation.depth (line_bits c) few) all.net (grown_to limit (suc j) few) v)

  pub walk_asked : (limit rows : ℕ) → 1 ≤ rows → rows ≤ c.relation.depth → HasAnswer c (walk rows) → (values : ℕ → Bool) × Satisfies values (walk_formula (breaks_of (parts_of c a b) limit) rows).clauses
  walk_asked limit zero some few answer = absurd (omega arith)
  walk_asked limit (suc j) some few answer =
      let all = breaks_of (parts_of c a b) limit in
      subst (λ (ss : List ScanLiterals). (values : ℕ → Bool) × Satisfies values (walked_formula all.net ss).clauses) (taken limit (suc j) few)
      (walk_asked_of limit gate j (wider j c.relation.depth (line_bits c) few) all.net (grown_to limit (suc j) few) answer.1 answer.2.0 answer.2.1)

  -- ---- FIRST, a walk of one row

  only_row : (pair : Pair) (rows : List Row) → length rows ≡ 1 → AreAllowedFrom c.old c.new c.relation pair rows → (row : Row) × (rows ≡ row ∷ []) × (is_allowed c.relation row pair ≡ true)
  only_row pair [] len k = absurd (omega arith)
  only_row pair (row ∷ []) len k = (row, refl, k.0)
  only_row pair (row ∷ next ∷ rows) len k = absurd (omega arith)

  -- what a solution spells is an answer
  pub first_decoded : (limit : ℕ) (v : ℕ → Bool) → Satisfies v (first_formula (breaks_of (parts_of c a b) limit)).clauses → IsAnswer c first (scans_decoded (parts_of c a b) (breaks_of (parts_of c a b) limit).scans 1 v)
  first_decoded limit v h =
      let all = breaks_of (parts_of c a b) limit in
      let of_walk = subst (λ (f : Formula). Satisfies v f.clauses) (sym (walked_one all.net all.scans)) h in
      let is = walk_decoded limit 1 (omega arith) t.comparison.some_depth v of_walk in
      only_row (start c.old c.new) (scans_decoded (parts_of c a b) all.scans 1 v).rows is.0 is.1

  pub first_asked : (limit : ℕ) → HasAnswer c first → (values : ℕ → Bool) × Satisfies values (first_formula (breaks_of (parts_of c a b) limit)).clauses
  first_asked limit answer =
      let all = breaks_of (parts_of c a b) limit in
      let row = answer.2.0 in
      subst (λ (f : Formula). (values : ℕ → Bool) × Satisfies values f.clauses) (walked_one all.net all.scans) (walk_asked limit 1 (omega arith) t.comparison.some_depth (answer.0, row ∷ [], (refl, (answer.2.2, tt))))
