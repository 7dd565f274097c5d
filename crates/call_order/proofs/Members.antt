-- What is among some numbers.
use Rattle.std.proofs.Common.{◌≡◌, ℕ, ◌<◌, ◌≤◌, Bool, true, false, ◌||◌, eqb, List, [], ◌∷◌, ◌++◌, length, refl, ◌∙◌, sym, ap, subst, ◌⊎◌, inl, inr, ⊎_elim}
use Rattle.std.specs.List.{list_all}
use Rattle.std.proofs.lemmas.Bool.{cases_lt, eqb-true, eq-eqb, or_cases, or_left, or_right, and_cases, and_parts, both_ways}
use Rattle.std.proofs.lemmas.List.{get_or_past}
use Rattle.std.proofs.lemmas.List.Folds.{list_any-append}
use Rattle.call_order.specs.Uses.{Graph, uses_at, is_among}

pub is_among-append : (k : ℕ) (xs ys : List ℕ) → is_among k (xs ++ ys) ≡ (is_among k xs || is_among k ys)
is_among-append k xs ys = list_any-append (λ n. eqb k n) xs ys

pub is_among-left : (k : ℕ) (xs ys : List ℕ) → is_among k xs ≡ true → is_among k (xs ++ ys) ≡ true
is_among-left k xs ys h = is_among-append k xs ys ∙ or_left _ _ h

pub is_among-right : (k : ℕ) (xs ys : List ℕ) → is_among k ys ≡ true → is_among k (xs ++ ys) ≡ true
is_among-right k xs ys h = is_among-append k xs ys ∙ or_right _ _ h

pub is_among-head : (k : ℕ) (xs : List ℕ) → is_among k (k ∷ xs) ≡ true
is_among-head k xs = or_left _ _ (eq-eqb k k refl)

pub is_among-tail : (k x : ℕ) (xs : List ℕ) → is_among k xs ≡ true → is_among k (x ∷ xs) ≡ true
is_among-tail k x xs h = or_right _ _ h

-- what is among a list is its first, or is among the rest
pub is_among-cases : (k x : ℕ) (xs : List ℕ) → is_among k (x ∷ xs) ≡ true → (k ≡ x) ⊎ (is_among k xs ≡ true)
is_among-cases k x xs h = ⊎_elim (λ e. inl (eqb-true k x e)) (λ r. inr r) (or_cases _ _ h)

-- what is among two lists is among one of them
pub is_among-either : (k : ℕ) (xs ys : List ℕ) → is_among k (xs ++ ys) ≡ true → (is_among k xs ≡ true) ⊎ (is_among k ys ≡ true)
is_among-either k xs ys h = or_cases _ _ (sym (is_among-append k xs ys) ∙ h)

-- what is among a list parts it
pub is_among-parts : (k : ℕ) (xs : List ℕ) → is_among k xs ≡ true → (before : List ℕ) × (behind : List ℕ) × (xs ≡ before ++ k ∷ behind)
is_among-parts k [] h = cc
is_among-parts k (x ∷ xs) h =
    ⊎_elim (λ (e : k ≡ x). ([], xs, ap (λ (n : ℕ). n ∷ xs) (sym e)))
    (λ r. let p = is_among-parts k xs r in (x ∷ p.0, p.1, ap (λ (ys : List ℕ). x ∷ ys) p.2))
    (is_among-cases k x xs h)

-- where not all pass a test, one of them does not
pub list_all-fails : (test : ℕ → Bool) (xs : List ℕ) → list_all test xs ≡ false → (k : ℕ) × (is_among k xs ≡ true) × (test k ≡ false)
list_all-fails test [] h = cc
list_all-fails test (x ∷ xs) h =
    ⊎_elim (λ no. (x, is_among-head x xs, no))
    (λ r. let p = list_all-fails test xs r in (p.0, is_among-tail p.0 x xs p.1, p.2))
    (and_cases _ _ h)

-- where all pass a test, each of them does
pub list_all-at : (test : ℕ → Bool) (xs : List ℕ) (k : ℕ) → list_all test xs ≡ true → is_among k xs ≡ true → test k ≡ true
list_all-at test [] k h m = cc
list_all-at test (x ∷ xs) k h m =
    let p = and_parts (test x) (list_all test xs) h in
    ⊎_elim (λ (e : k ≡ x). subst (λ (n : ℕ). test n ≡ true) (sym e) p.0) (λ r. list_all-at test xs k p.1 r) (is_among-cases k x xs m)

-- what uses something is below the length
pub below-from_use : (g : Graph) (k used : ℕ) → is_among used (uses_at g k) ≡ true → k < length g
below-from_use g k used h =
    ⊎_elim (λ (below : k < length g). below)
    (λ (past : length g ≤ k). let e : uses_at g k ≡ [] = get_or_past g k [] past in
    let n : is_among used (uses_at g k) ≡ false = ap (is_among used) e in absurd (both_ways _ n h))
    (cases_lt k (length g))
