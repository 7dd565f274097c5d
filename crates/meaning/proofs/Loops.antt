-- Loops over a marking.
use Rattle.std.proofs.Common.{◌≡◌, add-one, ℕ, zero, suc, ◌+◌, ◌<◌, List, [], ◌∷◌, length, map, get_or, take, refl, ap, arith, ℤ}
use Rattle.std.specs.Prelude.{slice_set}

pub length-set : (m : List ℤ) (i : ℕ) (v : ℤ) → length (slice_set m i v) ≡ length m
length-set [] i v = refl
length-set (a ∷ m) zero v = refl
length-set (a ∷ m) (suc i) v = ap suc (length-set m i v)

-- one element more of a list that is built by map
written : {A : Type 0} (f : A → ℤ) (xs : List A) (m : List ℤ) (i : ℕ) (v : ℤ) (d : A) → i < length xs → length m ≡ length xs → take i m ≡ take i (map f xs) → v ≡ f (get_or xs i d) → take (suc i) (slice_set m i v) ≡ take (suc i) (map f xs)
written f [] m i v d h len front is = absurd (omega (arith, h))
written f (x ∷ xs) [] i v d h len front is = absurd (omega (arith, len))
written f (x ∷ xs) (a ∷ m) zero v d h len front is = ap (λ w. w ∷ []) is
written f (x ∷ xs) (a ∷ m) (suc i) v d h len front is =
    let e : a ≡ f x = cc in
    let r : take i m ≡ take i (map f xs) = cc in
    let w = written f xs m i v d (omega (arith, h)) (omega (arith, len)) r is in
    rw e (ap (λ t. f x ∷ t) w)

pub written-next : {A : Type 0} (f : A → ℤ) (xs : List A) (m : List ℤ) (i : ℕ) (v : ℤ) (d : A) → i < length xs → length m ≡ length xs → take i m ≡ take i (map f xs) → v ≡ f (get_or xs i d) → take (i + 1) (slice_set m i v) ≡ take (i + 1) (map f xs)
written-next f xs m i v d h len front is = rw add-one (written f xs m i v d h len front is)
