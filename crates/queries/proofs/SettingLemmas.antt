-- The tests of a setting are the model's.
use Rattle.std.proofs.Common.{◌≡◌, ℕ, zero, suc, ◌+◌, ◌<◌, ◌≤◌, Bool, true, false, not, ◌&&◌, ◌||◌, List, [], ◌∷◌, length, refl, sym, ap, ◌∙◌, subst, rules, arith, tests, inl, inr, ℤ, ◌≤ℤ◌}
use Rattle.std.proofs.lemmas.Int.{ints}
use Rattle.std.proofs.lemmas.Bool.{false≢true, cases_lt, and_parts, and_from, and_cases, or_parts, or_left, or_right, false_from_ne_true}
use Rattle.plc_types.specs.declared.range.Range.{Range}
use Rattle.plc_types.specs.Types.{in_range}
use Rattle.plc_types.proofs.InRange.{bounds, in_range_from}
use Rattle.meaning.specs.Values.{State}
use Rattle.scan_model.specs.Scans.{ranges_of}
use Rattle.scan_model.specs.InRange.{IsInRange}
use Rattle.scan_model.specs.Pairs.{Pair, CandidateData, IsPairInRange}
use Rattle.scan_model.specs.Candidates.{candidate_holds, candidates_of}
use Rattle.scan_model.specs.Verdicts.{CandidateSet, count_of, Meets}
use Rattle.verdict_laws.specs.Evidence.{candidate_on, FailsOn, held_at_start, left_on}
use Rattle.queries.specs.Comparisons.{Comparison, IsComparison}
use Rattle.queries.specs.Ranges.{are_in_range, is_pair_in_range}
use Rattle.queries.specs.Questions.{deep, IsQueryOf}
use Rattle.queries.specs.Settings.{Setting, setting_of, meets_below, meets, first_set, left_of}

-- the test of ranges
pub IsInRange-test : (rs : List Range) (s : State) → are_in_range rs s ≡ true → IsInRange rs s
IsInRange-test [] [] h = tt
IsInRange-test [] (v ∷ vs) h = false≢true h
IsInRange-test (r ∷ rs) [] h = false≢true h
IsInRange-test (r ∷ rs) (v ∷ vs) h =
    let parts = and_parts (in_range v r) (are_in_range rs vs) h in
    let w = bounds v r parts.0 in
    (w.0, w.1, IsInRange-test rs vs parts.1)

pub test-IsInRange : (rs : List Range) (s : State) → IsInRange rs s → are_in_range rs s ≡ true
test-IsInRange [] [] f = refl
test-IsInRange [] (v ∷ vs) f = absurd f
test-IsInRange (r ∷ rs) [] f = absurd f
test-IsInRange (r ∷ rs) (v ∷ vs) f = and_from (in_range v r) (are_in_range rs vs) (in_range_from v r f.0 f.1) (test-IsInRange rs vs f.2)

module _ (c : Comparison) where
  pub IsPairInRange-test : (pair : Pair) → (setting_of c).in_range pair ≡ true → IsPairInRange c.old c.new pair
  unfolding setting_of
  IsPairInRange-test pair h =
      let parts = and_parts (are_in_range (ranges_of c.old.cells) pair.old) (are_in_range (ranges_of c.new.cells) pair.new) h in
      (IsInRange-test (ranges_of c.old.cells) pair.old parts.0, IsInRange-test (ranges_of c.new.cells) pair.new parts.1)

  pub test-IsPairInRange : (pair : Pair) → IsPairInRange c.old c.new pair → (setting_of c).in_range pair ≡ true
  unfolding setting_of
  test-IsPairInRange pair f =
      and_from (are_in_range (ranges_of c.old.cells) pair.old) (are_in_range (ranges_of c.new.cells) pair.new) (test-IsInRange (ranges_of c.old.cells) pair.old f.0)
      (test-IsInRange (ranges_of c.new.cells) pair.new f.1)

-- a member that is tested holds
member_holds : (a b : Bool) → (not a || b) ≡ true → a ≡ true → b ≡ true
member_holds true b h e = h
member_holds false b h e = absurd (false≢true e)

holds_or_not : (a b : Bool) → (a ≡ true → b ≡ true) → (not a || b) ≡ true
holds_or_not true b h = h refl
holds_or_not false b h = refl

member_fails : (a b : Bool) → (not a || b) ≡ false → (a ≡ true) × (b ≡ false)
member_fails true b h = (refl, h)
member_fails false b h = absurd (false≢true (sym h))

meets_below-at : (s : Setting) (set : CandidateSet) (pair : Pair) (m : ℕ) → meets_below s m set pair ≡ true
    → (n : ℕ) → n < m → set n ≡ true → s.holds n pair ≡ true
meets_below-at s set pair zero h n lt e = absurd (omega (arith, lt))
meets_below-at s set pair (suc m) h n lt e =
    let parts = and_parts (not (set m) || s.holds m pair) (meets_below s m set pair) h in
    elim (cases_lt n m) [
      | inl less ↦ meets_below-at s set pair m parts.1 n less e
      | inr more ↦
          let same : n ≡ m = omega arith in
          subst (λ k. s.holds k pair ≡ true) (sym same) (member_holds (set m) (s.holds m pair) parts.0 (subst (λ k. set k ≡ true) same e))
    ]

meets_below-from : (s : Setting) (set : CandidateSet) (pair : Pair) (m : ℕ) → ((n : ℕ) → n < m → set n ≡ true → s.holds n pair ≡ true)
    → meets_below s m set pair ≡ true
meets_below-from s set pair zero h = refl
meets_below-from s set pair (suc m) h =
    and_from (not (set m) || s.holds m pair) (meets_below s m set pair) (holds_or_not (set m) (s.holds m pair) (λ e. h m (omega arith) e))
    (meets_below-from s set pair m (λ n lt e. h n (omega arith) e))

meets_below-fails : (s : Setting) (set : CandidateSet) (pair : Pair) (m : ℕ) → meets_below s m set pair ≡ false
    → (n : ℕ) × (n < m) × (set n ≡ true) × (s.holds n pair ≡ false)
meets_below-fails s set pair zero h = absurd (false≢true (sym h))
meets_below-fails s set pair (suc m) h =
    elim (and_cases (not (set m) || s.holds m pair) (meets_below s m set pair) h) [
      | inl here ↦ let fails = member_fails (set m) (s.holds m pair) here in (m, (omega arith), fails.0, fails.1)
      | inr below ↦ let fails = meets_below-fails s set pair m below in (fails.0, (omega (arith, fails.1)), fails.2, fails.3)
    ]

-- what a set that is met says of each of its candidates
pub meets-at : (s : Setting) (set : CandidateSet) (pair : Pair) → meets s set pair ≡ true → (n : ℕ) → n < s.candidates → set n ≡ true → s.holds n pair ≡ true
meets-at s set pair h n lt e = meets_below-at s set pair s.candidates h n lt e

pub meets-from : (s : Setting) (set : CandidateSet) (pair : Pair) → ((n : ℕ) → n < s.candidates → set n ≡ true → s.holds n pair ≡ true) → meets s set pair ≡ true
meets-from s set pair h = meets_below-from s set pair s.candidates h

-- a set is not met where one of its candidates fails
pub meets-fails_at : (s : Setting) (set : CandidateSet) (pair : Pair) (n : ℕ) → n < s.candidates → set n ≡ true → s.holds n pair ≡ false → meets s set pair ≡ false
meets-fails_at s set pair n lt inside fails = false_from_ne_true (meets s set pair) (λ met. false≢true (sym fails ∙ meets-at s set pair met n lt inside))

module _ (c : Comparison) (is : IsComparison c) where
  pub candidates-setting : (setting_of c).candidates ≡ count_of c.old c.new c.relation
  unfolding setting_of
  candidates-setting = ap length is.listed

  pub holds-setting : (n : ℕ) (pair : Pair) → (setting_of c).holds n pair ≡ candidate_on c.old c.new c.relation n pair
  unfolding setting_of
  holds-setting n pair = ap (λ (cs : List CandidateData). candidate_holds cs n pair) is.listed

  pub Meets-test : (set : CandidateSet) (pair : Pair) → meets (setting_of c) set pair ≡ true → Meets c.old c.new c.relation set pair
  Meets-test set pair h n lt e =
      let below : n < (setting_of c).candidates = rw candidates-setting lt in
      sym (holds-setting n pair) ∙ meets_below-at (setting_of c) set pair (setting_of c).candidates h n below e

  pub test-Meets : (set : CandidateSet) (pair : Pair) → Meets c.old c.new c.relation set pair → meets (setting_of c) set pair ≡ true
  test-Meets set pair h =
      meets_below-from (setting_of c) set pair (setting_of c).candidates
      (λ n lt e. let below : n < count_of c.old c.new c.relation = rw (← candidates-setting) lt in holds-setting n pair ∙ h n below e)

  -- a set that a pair does not meet has a candidate that fails on it
  pub FailsOn-test : (set : CandidateSet) (pair : Pair) → meets (setting_of c) set pair ≡ false → FailsOn c.old c.new c.relation set pair
  FailsOn-test set pair h =
      let fails = meets_below-fails (setting_of c) set pair (setting_of c).candidates h in
      let below : fails.0 < count_of c.old c.new c.relation = rw (← candidates-setting) fails.1 in
      (fails.0, below, fails.2, sym (holds-setting fails.0 pair) ∙ fails.3)

  pub first_set-setting : (n : ℕ) → first_set (setting_of c) n ≡ held_at_start c.old c.new c.relation n
  unfolding setting_of
  first_set-setting n = rw is.listed refl

  pub left_of-setting : (set : CandidateSet) (pair : Pair) (n : ℕ) → left_of (setting_of c) set pair n ≡ left_on c.old c.new c.relation set pair n
  left_of-setting set pair n = rw (holds-setting n pair) refl

-- one more scan than searched so far
pub IsQueryOf-deep : (c : Comparison) (none : ℕ) → none < (setting_of c).depth → IsQueryOf c (deep (none + 1))
unfolding setting_of
IsQueryOf-deep c none less = ((omega arith), (omega arith))
