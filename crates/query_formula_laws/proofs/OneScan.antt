-- The formulas of one scan from any pair: in a model they are true exactly where the pair and the row that the words spell are an answer.
use Rattle.std.proofs.Common.{◌≡◌, ℕ, ◌+◌, ◌<◌, Bool, true, false, not, ◌&&◌, refl, sym, ◌∙◌, ap, subst, List, [], ◌∷◌, ◌++◌, length, arith}
use Rattle.std.proofs.lemmas.Bool.{false≢true, and_parts, and_from}
use Rattle.clause_core.specs.Satisfaction.{formula_true}
use Rattle.scan_model.specs.Scans.{ranges_of}
use Rattle.scan_model.specs.InRange.{Row}
use Rattle.scan_model.specs.Pairs.{CandidateData, Pair, IsPairInRange, holds, all_hold, fits_lines, is_allowed, loaded, after_row}
use Rattle.scan_model.specs.Candidates.{clause_at}
use Rattle.scan_model.specs.Verdicts.{CandidateSet, Meets}
use Rattle.verdict_laws.specs.Evidence.{LeavesSet, LeavesRelation, FailsOn}
use Rattle.queries.specs.Comparisons.{Comparison}
use Rattle.queries.specs.Ranges.{is_pair_in_range, are_in_range}
use Rattle.queries.proofs.SettingLemmas.{IsInRange-test, test-IsInRange}
use Rattle.query_formulas.specs.Products.{ProductLits}
use Rattle.query_formulas.specs.QueryClauses.{negations, units, some_fails, members_of, premises_of}
use Rattle.query_formula_laws.specs.TypedComparisons.{IsTypedComparison}
use Rattle.query_formula_laws.proofs.FormulaTruth.{twice, all_of, truths, holding, chosen, units-true, negations-true, some_fails-true, formula-append, members-all, chosen-each, chosen-from, chosen-fails, fails-chosen}
use Rattle.query_formula_laws.proofs.ProductTruth.{ProductTruth}

-- ---- tests

pub inside_test : (c : Comparison) (pair : Pair) → is_pair_in_range c.old c.new pair ≡ true → IsPairInRange c.old c.new pair
inside_test c pair h =
    let parts = and_parts (are_in_range (ranges_of c.old.cells) pair.old) (are_in_range (ranges_of c.new.cells) pair.new) h in
    (IsInRange-test (ranges_of c.old.cells) pair.old parts.0, IsInRange-test (ranges_of c.new.cells) pair.new parts.1)

pub test_inside : (c : Comparison) (pair : Pair) → IsPairInRange c.old c.new pair → is_pair_in_range c.old c.new pair ≡ true
test_inside c pair f =
    and_from (are_in_range (ranges_of c.old.cells) pair.old) (are_in_range (ranges_of c.new.cells) pair.new) (test-IsInRange (ranges_of c.old.cells) pair.old f.0) (test-IsInRange (ranges_of c.new.cells) pair.new f.1)

pub from_not : (b : Bool) → not b ≡ true → b ≡ false
from_not true h = absurd (false≢true h)
from_not false h = refl

pub to_not : (b : Bool) → b ≡ false → not b ≡ true
to_not true h = absurd (false≢true (sym h))
to_not false h = refl

-- ---- a set, in the numbers of the model's candidates

Meets-from : (c : Comparison) (t : IsTypedComparison c) (set : CandidateSet) (pair : Pair) → all_of (chosen 0 set (holding c.relation.candidates pair)) ≡ true → Meets c.old c.new c.relation set pair
Meets-from c t set pair h =
    let same = t.comparison.listed in
    subst (λ (cs : List CandidateData). (n : ℕ) → n < length cs → set n ≡ true → holds (clause_at cs n) pair ≡ true) same
    (λ n lt is. chosen-each set pair 0 c.relation.candidates h n n (none n) lt is)
  where
    none : (n : ℕ) → n ≡ 0 + n
    none n = omega arith

from-Meets : (c : Comparison) (t : IsTypedComparison c) (set : CandidateSet) (pair : Pair) → Meets c.old c.new c.relation set pair → all_of (chosen 0 set (holding c.relation.candidates pair)) ≡ true
from-Meets c t set pair h =
    let same = t.comparison.listed in
    let each : (n : ℕ) → n < length c.relation.candidates → set n ≡ true → holds (clause_at c.relation.candidates n) pair ≡ true =
    subst (λ (cs : List CandidateData). (n : ℕ) → n < length cs → set n ≡ true → holds (clause_at cs n) pair ≡ true) (sym same) h in
    chosen-from set pair 0 c.relation.candidates (λ n j e lt is. each n lt (ap set (is_it n j e) ∙ is))
  where
    is_it : (n j : ℕ) → j ≡ 0 + n → n ≡ j
    is_it n j e = omega arith

FailsOn-from : (c : Comparison) (t : IsTypedComparison c) (set : CandidateSet) (pair : Pair) → all_of (chosen 0 set (holding c.relation.candidates pair)) ≡ false → FailsOn c.old c.new c.relation set pair
FailsOn-from c t set pair h =
    let f = chosen-fails set pair 0 c.relation.candidates h in
    let same = t.comparison.listed in
    subst (λ (cs : List CandidateData). (n : ℕ) × (n < length cs) × (set n ≡ true) × (holds (clause_at cs n) pair ≡ false)) same
    (f.number, f.below, ap set (none f.number) ∙ f.member, f.fails)
  where
    none : (n : ℕ) → n ≡ 0 + n
    none n = omega arith

from-FailsOn : (c : Comparison) (t : IsTypedComparison c) (set : CandidateSet) (pair : Pair) → FailsOn c.old c.new c.relation set pair → all_of (chosen 0 set (holding c.relation.candidates pair)) ≡ false
from-FailsOn c t set pair h =
    let same = t.comparison.listed in
    let f : (n : ℕ) × (n < length c.relation.candidates) × (set n ≡ true) × (holds (clause_at c.relation.candidates n) pair ≡ false) =
    subst (λ (cs : List CandidateData). (n : ℕ) × (n < length cs) × (set n ≡ true) × (holds (clause_at cs n) pair ≡ false)) (sym same) h in
    fails-chosen set pair c.relation.candidates f.0 f.1 f.2 f.3

-- ---- the premises

-- the pair is in range and meets the set, and the row is allowed
pub record Begins (c : Comparison) (set : CandidateSet) (pair : Pair) (row : Row) : Type 0 where
  pub in_range : IsPairInRange c.old c.new pair
  pub meets : Meets c.old c.new c.relation set pair
  pub fits : fits_lines c.relation.inputs row ≡ true
  pub allowed : is_allowed c.relation row pair ≡ true

module _ (v : ℕ → Bool) (c : Comparison) (t : IsTypedComparison c) (p : ProductLits) (pair : Pair) (row : Row) (h : ProductTruth v c p pair row) where
  none_outside : formula_true v (units (negations p.outside)) ≡ (is_pair_in_range c.old c.new pair && fits_lines c.relation.inputs row)
  none_outside = units-true v (negations p.outside) ∙ negations-true v p.outside ∙ ap not h.outside ∙ twice (is_pair_in_range c.old c.new pair && fits_lines c.relation.inputs row)

  premises_are : (set : CandidateSet) → formula_true v (premises_of p set) ≡ ((formula_true v (units (negations p.outside)) && formula_true v (units (members_of set p.before))) && formula_true v (units p.environment))
  premises_are set = formula-append v (units (negations p.outside) ++ units (members_of set p.before)) (units p.environment) ∙ ap (λ (q : Bool). q && formula_true v (units p.environment)) (formula-append v (units (negations p.outside)) (units (members_of set p.before)))

  pub begins : (set : CandidateSet) → formula_true v (premises_of p set) ≡ true → Begins c set pair row
  begins set k =
      let parts = and_parts (formula_true v (units (negations p.outside)) && formula_true v (units (members_of set p.before))) (formula_true v (units p.environment)) (sym (premises_are set) ∙ k) in
      let first = and_parts (formula_true v (units (negations p.outside))) (formula_true v (units (members_of set p.before))) parts.0 in
      let low = and_parts (is_pair_in_range c.old c.new pair) (fits_lines c.relation.inputs row) (sym none_outside ∙ first.0) in
      let inside = inside_test c pair low.0 in
      let met : all_of (chosen 0 set (holding c.relation.candidates pair)) ≡ true = sym (members-all v set p.before (holding c.relation.candidates pair) (h.before inside)) ∙ sym (units-true v (members_of set p.before)) ∙ first.1 in
      let env : all_hold c.relation.environment (loaded c.relation.inputs row pair) ≡ true = sym (h.environment inside low.1) ∙ sym (units-true v p.environment) ∙ parts.1 in
      record {
        in_range = inside;
        meets = Meets-from c t set pair met;
        fits = low.1;
        allowed = and_from (fits_lines c.relation.inputs row) (all_hold c.relation.environment (loaded c.relation.inputs row pair)) low.1 env;
      }

  pub premises_true : (set : CandidateSet) → IsPairInRange c.old c.new pair → Meets c.old c.new c.relation set pair → is_allowed c.relation row pair ≡ true → formula_true v (premises_of p set) ≡ true
  premises_true set inside meets allowed =
      let row_parts = and_parts (fits_lines c.relation.inputs row) (all_hold c.relation.environment (loaded c.relation.inputs row pair)) allowed in
      let out = none_outside ∙ and_from (is_pair_in_range c.old c.new pair) (fits_lines c.relation.inputs row) (test_inside c pair inside) row_parts.0 in
      let met = units-true v (members_of set p.before) ∙ members-all v set p.before (holding c.relation.candidates pair) (h.before inside) ∙ from-Meets c t set pair meets in
      let env = units-true v p.environment ∙ h.environment inside row_parts.0 ∙ row_parts.1 in
      premises_are set ∙ and_from _ _ (and_from _ _ out met) env

  -- ---- the two queries

  pub step_found : (set : CandidateSet) → formula_true v (premises_of p set ++ some_fails (members_of set p.after) ∷ []) ≡ true → LeavesSet c.old c.new c.relation set pair row
  step_found set k =
      let parts = and_parts (formula_true v (premises_of p set)) (formula_true v (some_fails (members_of set p.after) ∷ [])) (sym (formula-append v (premises_of p set) (some_fails (members_of set p.after) ∷ [])) ∙ k) in
      let is = begins set parts.0 in
      let left = from_not (all_of (truths v (members_of set p.after))) (sym (some_fails-true v (members_of set p.after)) ∙ parts.1) in
      let behind = after_row c.old c.new c.relation row pair in
      record { in_range = is.in_range; meets = is.meets; allowed = is.allowed; fails = FailsOn-from c t set behind (sym (members-all v set p.after (holding c.relation.candidates behind) (h.after is.in_range is.fits)) ∙ left) }

  pub step_asked : (set : CandidateSet) → LeavesSet c.old c.new c.relation set pair row → formula_true v (premises_of p set ++ some_fails (members_of set p.after) ∷ []) ≡ true
  step_asked set is =
      let row_parts = and_parts (fits_lines c.relation.inputs row) (all_hold c.relation.environment (loaded c.relation.inputs row pair)) is.allowed in
      let behind = after_row c.old c.new c.relation row pair in
      formula-append v (premises_of p set) (some_fails (members_of set p.after) ∷ [])
      ∙ and_from _ _ (premises_true set is.in_range is.meets is.allowed)
      (some_fails-true v (members_of set p.after) ∙ to_not _ (members-all v set p.after (holding c.relation.candidates behind) (h.after is.in_range row_parts.0) ∙ from-FailsOn c t set behind is.fails))

  pub goal_found : (set : CandidateSet) → formula_true v (premises_of p set ++ some_fails p.relates ∷ []) ≡ true → LeavesRelation c.old c.new c.relation set pair row
  goal_found set k =
      let parts = and_parts (formula_true v (premises_of p set)) (formula_true v (some_fails p.relates ∷ [])) (sym (formula-append v (premises_of p set) (some_fails p.relates ∷ [])) ∙ k) in
      let is = begins set parts.0 in
      let left = from_not (all_of (truths v p.relates)) (sym (some_fails-true v p.relates) ∙ parts.1) in
      record { in_range = is.in_range; meets = is.meets; allowed = is.allowed; unrelated = sym (h.relates is.in_range is.fits) ∙ left }

  pub goal_asked : (set : CandidateSet) → LeavesRelation c.old c.new c.relation set pair row → formula_true v (premises_of p set ++ some_fails p.relates ∷ []) ≡ true
  goal_asked set is =
      let row_parts = and_parts (fits_lines c.relation.inputs row) (all_hold c.relation.environment (loaded c.relation.inputs row pair)) is.allowed in
      formula-append v (premises_of p set) (some_fails p.relates ∷ [])
      ∙ and_from _ _ (premises_true set is.in_range is.meets is.allowed) (some_fails-true v p.relates ∙ to_not _ (h.relates is.in_range row_parts.0 ∙ is.unrelated))
