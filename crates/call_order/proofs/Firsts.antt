-- The first number in a row that passes a test.
use Rattle.std.proofs.Common.{◌≡◌, ℕ, zero, suc, ◌+◌, ◌<◌, ◌≤◌, Bool, true, false, Some, None, refl, arith, ◌∙◌, sym, ap, subst, ⊎_elim}
use Rattle.std.proofs.lemmas.Bool.{cases_Bool, cases_eq, cond-true, cond-false}
use Rattle.call_order.specs.Uses.{first_from}

pub first_from-true : (test : ℕ → Bool) (k count : ℕ) → test k ≡ true → first_from test k (suc count) ≡ Some k
unfolding first_from
first_from-true test k count h = cond-true (test k) (Some k) (first_from test (k + 1) count) h

pub first_from-false : (test : ℕ → Bool) (k count : ℕ) → test k ≡ false → first_from test k (suc count) ≡ first_from test (k + 1) count
unfolding first_from
first_from-false test k count h = cond-false (test k) (Some k) (first_from test (k + 1) count) h

pub first_from-zero : (test : ℕ → Bool) (k : ℕ) → first_from test k zero ≡ None
unfolding first_from
first_from-zero test k = refl

-- what is found passes the test, and lies in the row
pub first_from-passes : (test : ℕ → Bool) (k count i : ℕ) → first_from test k count ≡ Some i → (test i ≡ true) × (k ≤ i) × (i < k + count)
first_from-passes test k zero i e = let z = first_from-zero test k in cc
first_from-passes test k (suc count) i e =
    ⊎_elim (λ h. let same : k ≡ i = let f = first_from-true test k count h in cc in
    (subst (λ (n : ℕ). test n ≡ true) same h, omega arith, omega arith))
    (λ h. let later = first_from-passes test (k + 1) count i (sym (first_from-false test k count h) ∙ e) in
    (later.0, omega arith, omega arith))
    (cases_Bool (test k))

-- where none is found, none passes
pub first_from-none : (test : ℕ → Bool) (k count : ℕ) → first_from test k count ≡ None → (i : ℕ) → k ≤ i → i < k + count → test i ≡ false
first_from-none test k zero e i low high = absurd (omega arith)
first_from-none test k (suc count) e i low high =
    ⊎_elim (λ h. let f = first_from-true test k count h in cc)
    (λ h. ⊎_elim (λ (same : k ≡ i). subst (λ (n : ℕ). test n ≡ false) same h)
    (λ other. first_from-none test (k + 1) count (sym (first_from-false test k count h) ∙ e) i (omega arith) (omega arith))
    (cases_eq k i))
    (cases_Bool (test k))

-- the first that passes is found
pub first_from-first : (test : ℕ → Bool) (k count i : ℕ) → k ≤ i → i < k + count → test i ≡ true → ((j : ℕ) → k ≤ j → j < i → test j ≡ false) → first_from test k count ≡ Some i
first_from-first test k zero i low high passes fails = absurd (omega arith)
first_from-first test k (suc count) i low high passes fails =
    ⊎_elim (λ (same : k ≡ i). first_from-true test k count (subst (λ (n : ℕ). test n ≡ true) (sym same) passes) ∙ ap Some same)
    (λ other. let below : k < i = omega arith in
    first_from-false test k count (fails k (omega arith) below)
    ∙ first_from-first test (k + 1) count i (omega arith) (omega arith) passes (λ j l h. fails j (omega arith) h))
    (cases_eq k i)

-- where none passes, none is found
pub first_from-empty : (test : ℕ → Bool) (k count : ℕ) → ((j : ℕ) → k ≤ j → j < k + count → test j ≡ false) → first_from test k count ≡ None
first_from-empty test k zero fails = first_from-zero test k
first_from-empty test k (suc count) fails =
    first_from-false test k count (fails k (omega arith) (omega arith))
    ∙ first_from-empty test (k + 1) count (λ j l h. fails j (omega arith) (omega arith))
