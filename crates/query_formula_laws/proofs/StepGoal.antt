-- STEP and GOAL: their formulas have solutions where there are answers, and each solution stands for one.
use Rattle.std.proofs.Common.{◌≡◌, ℕ, ◌+◌, Bool, true, false, refl, sym, subst, List, [], ◌∷◌, ◌++◌, length, arith, append_assoc, length-append}
use Rattle.std.proofs.lemmas.List.{append-nil}
use Rattle.clause_core.specs.declared.literal.Lit.{Lit}
use Rattle.clause_core.specs.Satisfaction.{assigned, formula_true, Satisfies}
use Rattle.scan_model.specs.InRange.{Row}
use Rattle.scan_model.specs.Pairs.{Pair, IsPairInRange, fits_lines}
use Rattle.scan_model.specs.Verdicts.{CandidateSet}
use Rattle.verdict_laws.specs.Evidence.{LeavesSet, LeavesRelation}
use Rattle.queries.specs.Comparisons.{Comparison}
use Rattle.queries.specs.Questions.{step, goal}
use Rattle.queries.specs.Meaning.{HasAnswer}
use Rattle.gates.specs.Netlists.{Netlist}
use Rattle.gates.specs.Models.{IsModel, extended, Agrees}
use Rattle.gates.proofs.Growth.{extends_self}
use Rattle.gates.proofs.OneModel.{ExtendsOnce_ordered}
use Rattle.node_core.specs.NodeLaws.{kinds_of}
use Rattle.node_core.specs.Scans.{ScanData}
use Rattle.node_circuits.specs.NodeWords.{Words}
use Rattle.query_formulas.specs.CellShapes.{bits_of, shapes_of}
use Rattle.query_formulas.specs.Parts.{Parts, lines_cells, parts_of}
use Rattle.query_formulas.specs.PairWords.{PairWords}
use Rattle.query_formulas.specs.Products.{ProductLits, product_bits, product_of}
use Rattle.query_formulas.specs.QueryClauses.{members_of, some_fails, with_gates, premises_of, step_formula, goal_formula}
use Rattle.query_formulas.specs.Decoded.{IsAnswer, decoded_state, product_decoded}
use Rattle.query_formula_laws.specs.TypedComparisons.{IsTypedComparison, IsScanOf}
use Rattle.query_formula_laws.proofs.FreeBits.{value_bits, joined}
use Rattle.query_formula_laws.proofs.FreeWords.{length-bits}
use Rattle.query_formula_laws.proofs.Spelled.{Spells, SpellsPair}
use Rattle.query_formula_laws.proofs.FormulaTruth.{gates-model, model-gates}
use Rattle.query_formula_laws.proofs.ProductTruth.{ProductTruth, product_truth}
use Rattle.query_formula_laws.proofs.OneScan.{step_found, step_asked, goal_found, goal_asked}
use Rattle.query_formula_laws.proofs.Orders.{extends_product, product_in_order}
use Rattle.query_formula_laws.proofs.Given.{of_types, row_types, allowed_fits, free_read, free_given, free_agree}

-- where the free words of the circuit begin
abbrev new_from : Comparison → ℕ
new_from c = 2 + bits_of (shapes_of c.old.cells)

abbrev inputs_from : Comparison → ℕ
inputs_from c = 2 + bits_of (shapes_of c.old.cells) + bits_of (shapes_of c.new.cells)

module _ (c : Comparison) (t : IsTypedComparison c) (a b : ScanData) (is_a : IsScanOf c.old a) (is_b : IsScanOf c.new b) (limit : ℕ) where
  abbrev parts : Parts
  parts = parts_of c a b

  abbrev lits : ProductLits
  lits = (product_of parts limit).lits

  abbrev pair_words : PairWords
  pair_words = (product_of parts limit).pair

  abbrev input_words : Words
  input_words = (product_of parts limit).inputs

  abbrev no_gates : Netlist
  no_gates = record { first = product_bits parts + 2; limit = limit; gates = [] }

  -- ---- what a model reads

  abbrev read_pair : (ℕ → Bool) → Pair
  read_pair v = (product_decoded parts (product_of parts limit) v).pair

  abbrev read_row : (ℕ → Bool) → Row
  read_row v = decoded_state parts.lines input_words v

  reads_pair : (v : ℕ → Bool) → SpellsPair v c.old c.new pair_words (read_pair v)
  reads_pair v = record { old = free_read v 2 c.old.cells; new = free_read v (new_from c) c.new.cells }

  model_truth : (v : ℕ → Bool) → IsModel v lits.net → ProductTruth v c lits (read_pair v) (read_row v)
  model_truth v m = product_truth v c t a b is_a is_b pair_words input_words (read_pair v) (read_row v) no_gates (reads_pair v) (free_read v (inputs_from c) (lines_cells c)) m

  -- ---- a model that spells a pair and a row

  record Spelling (pair : Pair) (row : Row) : Type 0 where
    assignment : ℕ → Bool
    model : IsModel assignment lits.net
    spells_pair : SpellsPair assignment c.old c.new pair_words pair
    spells_row : Spells assignment (lines_cells c) input_words row

  spelling : (pair : Pair) (row : Row) → IsPairInRange c.old c.new pair → fits_lines c.relation.inputs row ≡ true → Spelling pair row
  spelling pair row inside fits =
      let typed_old = of_types c.old.cells pair.old t.old_cells inside.0 in
      let typed_new = of_types c.new.cells pair.new t.new_cells inside.1 in
      let typed_row = row_types c t row fits in
      let front : List Bool = false ∷ true ∷ [] in
      let one = joined (value_bits (kinds_of c.old.cells) pair.old) in
      let two = joined (value_bits (kinds_of c.new.cells) pair.new) in
      let three = joined (value_bits (kinds_of (lines_cells c)) row) in
      let values = front ++ one ++ two ++ three in
      let setting = assigned values in
      let long_one : length one ≡ bits_of parts.old = length-bits c.old.cells pair.old typed_old in
      let long_two : length two ≡ bits_of parts.new = length-bits c.new.cells pair.new typed_new in
      let given_old = free_given c.old.cells pair.old front (two ++ three) values 2 typed_old (append_assoc (front ++ one) two three) refl in
      let given_new = free_given c.new.cells pair.new (front ++ one) three values (new_from c) typed_new refl (at_new (length one) (bits_of parts.old) (length (front ++ one)) long_one (length-append front one)) in
      let given_row = free_given (lines_cells c) row (front ++ one ++ two) [] values (inputs_from c) typed_row (sym (append-nil values)) (at_row (length one) (length two) (bits_of parts.old) (bits_of parts.new) (length (front ++ one)) (length (front ++ one ++ two)) long_one long_two (length-append front one) (length-append (front ++ one) two)) in
      let once = ExtendsOnce_ordered lits.net setting (product_in_order parts limit).ordered refl in
      let v = extended setting lits.net.first lits.net.gates in
      let first_gate : ℕ = product_bits parts + 2 in
      let agrees : Agrees first_gate v setting = subst (λ (x : ℕ). Agrees x v setting) (extends_product parts limit).first once.keeps in
      record {
        assignment = v;
        model = once.model;
        spells_pair = record {
          old = free_agree v setting first_gate 2 c.old.cells pair.old agrees (omega arith) given_old;
          new = free_agree v setting first_gate (new_from c) c.new.cells pair.new agrees (omega arith) given_new;
        };
        spells_row = free_agree v setting first_gate (inputs_from c) (lines_cells c) row agrees (omega arith) given_row;
      }
    where
      at_new : (l s k : ℕ) → l ≡ s → k ≡ 2 + l → 2 + s ≡ k
      at_new l s k e f = omega arith

      at_row : (l m s r k j : ℕ) → l ≡ s → m ≡ r → k ≡ 2 + l → j ≡ k + m → 2 + s + r ≡ j
      at_row l m s r k j e f g h = omega arith

  spelled_truth : (pair : Pair) (row : Row) (s : Spelling pair row) → ProductTruth s.assignment c lits pair row
  spelled_truth pair row s = product_truth s.assignment c t a b is_a is_b pair_words input_words pair row no_gates s.spells_pair s.spells_row s.model

  -- ---- the clauses of a solution

  solved : (v : ℕ → Bool) (more : List (List Lit)) → Satisfies v (with_gates lits.net (length lits.net.gates) more).clauses → IsModel v lits.net × (formula_true v more ≡ true)
  solved v more h = gates-model v lits.net lits.net (length lits.net.gates) more (extends_self lits.net) refl h

  solving : (v : ℕ → Bool) (more : List (List Lit)) → IsModel v lits.net → formula_true v more ≡ true → Satisfies v (with_gates lits.net (length lits.net.gates) more).clauses
  solving v more m h = model-gates v lits.net lits.net (length lits.net.gates) more (extends_self lits.net) refl m h

  -- ---- STEP

  -- what a solution spells is an answer
  pub step_decoded : (set : CandidateSet) (v : ℕ → Bool) → Satisfies v (step_formula lits set).clauses → IsAnswer c (step set) (product_decoded parts (product_of parts limit) v)
  step_decoded set v h =
      let is = solved v (premises_of lits set ++ some_fails (members_of set lits.after) ∷ []) h in
      (read_row v, refl, step_found v c t lits (read_pair v) (read_row v) (model_truth v is.0) set is.1)

  pub step_asked_of : (set : CandidateSet) → HasAnswer c (step set) → (values : ℕ → Bool) × Satisfies values (step_formula lits set).clauses
  step_asked_of set answer = by answer.0 answer.2.0 answer.2.2
    where
      by : (pair : Pair) (row : Row) → LeavesSet c.old c.new c.relation set pair row → (values : ℕ → Bool) × Satisfies values (step_formula lits set).clauses
      by pair row is =
          let s = spelling pair row is.in_range (allowed_fits c pair row is.allowed) in
          (s.assignment, solving s.assignment (premises_of lits set ++ some_fails (members_of set lits.after) ∷ []) s.model (step_asked s.assignment c t lits pair row (spelled_truth pair row s) set is))

  -- ---- GOAL

  -- what a solution spells is an answer
  pub goal_decoded : (set : CandidateSet) (v : ℕ → Bool) → Satisfies v (goal_formula lits set).clauses → IsAnswer c (goal set) (product_decoded parts (product_of parts limit) v)
  goal_decoded set v h =
      let is = solved v (premises_of lits set ++ some_fails lits.relates ∷ []) h in
      (read_row v, refl, goal_found v c t lits (read_pair v) (read_row v) (model_truth v is.0) set is.1)

  pub goal_asked_of : (set : CandidateSet) → HasAnswer c (goal set) → (values : ℕ → Bool) × Satisfies values (goal_formula lits set).clauses
  goal_asked_of set answer = by answer.0 answer.2.0 answer.2.2
    where
      by : (pair : Pair) (row : Row) → LeavesRelation c.old c.new c.relation set pair row → (values : ℕ → Bool) × Satisfies values (goal_formula lits set).clauses
      by pair row is =
          let s = spelling pair row is.in_range (allowed_fits c pair row is.allowed) in
          (s.assignment, solving s.assignment (premises_of lits set ++ some_fails lits.relates ∷ []) s.model (goal_asked s.assignment c t lits pair row (spelled_truth pair row s) set is))
