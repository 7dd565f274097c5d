-- How many elements of a list pass a test.
use Rattle.std.proofs.Common.{◌≡◌, ◌+◌, List, [], ◌∷◌, ◌++◌, Bool, true, false, ◌||◌, nat_lt, refl, sym, ap, ◌∙◌, if◌then◌else◌, count_by, arith, zero-add}
use Rattle.std.specs.List.{list_any}
use Rattle.std.proofs.lemmas.Bool.Decides.{nat_tests}
use Rattle.std.proofs.lemmas.List.Sums.{sum_by-append}

module _ {A : Type 0} (p : A → Bool) where
  pub count-cons : (x : A) (xs : List A) → count_by p (x ∷ xs) ≡ (if p x then 1 else 0) + count_by p xs
  count-cons x xs = sum_by-append (λ y. if p y then 1 else 0) (x ∷ []) xs ∙ ap (λ k. k + count_by p xs) (zero-add (if p x then 1 else 0))

  pub count-push : (xs : List A) (x : A) → count_by p (xs ++ x ∷ []) ≡ count_by p xs + (if p x then 1 else 0)
  count-push xs x = sum_by-append (λ y. if p y then 1 else 0) xs (x ∷ []) ∙ ap (λ k. count_by p xs + k) (zero-add (if p x then 1 else 0))

  -- what is counted is there
  pub any-count : (xs : List A) → list_any p xs ≡ nat_lt 0 (count_by p xs)
  any-count [] = refl
  any-count (x ∷ xs) = by (p x) (any-count xs) ∙ ap (nat_lt 0) (sym (count-cons x xs))
    where
      by : (b : Bool) → list_any p xs ≡ nat_lt 0 (count_by p xs) → (b || list_any p xs) ≡ nat_lt 0 ((if b then 1 else 0) + count_by p xs)
      by true rest = grind (arith, nat_tests)
      by false rest = rest ∙ ap (nat_lt 0) (sym (zero-add (count_by p xs)))
