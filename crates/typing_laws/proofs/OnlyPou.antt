-- What holds of a file's PROGRAM holds of each number that is its number.
use Rattle.std.proofs.Common.{◌≡◌, ℕ, ◌+◌, ◌<◌, List, [], ◌∷◌, length, Bool, true, false, if◌then◌else◌, Option, Some, subst, sym, ◌∙◌, Result, Ok, Err, arith}
use Rattle.std.specs.List.{position_from}
use Rattle.std.specs.Prelude.{IfOk, OnOk}
use Rattle.source_tree.specs.Syntax.{PouData}

same_number : (k l : ℕ) → (let o : Option ℕ = Some k in o) ≡ Some l → k ≡ l
same_number k l e = cc

same_pou : (p q : PouData) → (let o : Option PouData = Some p in o) ≡ Some q → p ≡ q
same_pou p q e = cc

pub ok_each : {A E : Type 0} (r : Result A E) (P : ℕ → Type 0) (o : Option ℕ) (l : ℕ) → o ≡ Some l → OnOk r (P l) → OnOk r ((k : ℕ) → o ≡ Some k → P k)
ok_each (Ok a) P o l only h = λ k is. subst P (same_number l k (sym only ∙ is)) h
ok_each (Err e) P o l only h = h

pub if_each : {A E : Type 0} (r : Result A E) (P : A → ℕ → PouData → Type 0) (o : Option ℕ) (at : ℕ → Option PouData) (l : ℕ) (q : PouData) → o ≡ Some l → at l ≡ Some q → IfOk r (λ a. P a l q)
    → IfOk r (λ a. (k : ℕ) (p : PouData) → o ≡ Some k → at k ≡ Some p → P a k p)
if_each (Ok a) P o at l q only here h = λ k p is there.
    let number : l ≡ k = same_number l k (sym only ∙ is) in
    let same : q ≡ p = same_pou q p (sym here ∙ subst (λ (n : ℕ). at n ≡ Some p) (sym number) there) in
    subst (λ (n : ℕ). P a n p) number (subst (P a l) same h)
if_each (Err e) P o at l q only here h = h

-- the first place at which a test passes is one of a list
pub position_below : {A : Type 0} (test : A → Bool) (i k : ℕ) (xs : List A) → position_from test i xs ≡ Some k → k < i + length xs
position_below test i k [] h = absurd (let e : ⊥ = cc in e)
position_below test i k (x ∷ xs) h = by (test x) h (λ m. position_below test (i + 1) k xs m)
  where
    by : (b : Bool) → (if b then Some i else position_from test (i + 1) xs) ≡ Some k → (position_from test (i + 1) xs ≡ Some k → k < i + 1 + length xs) → k < i + length (x ∷ xs)
    by true m rest = let same : i ≡ k = cc in omega arith
    by false m rest = let more = rest m in omega arith

pub position_inside : {A : Type 0} (test : A → Bool) (k : ℕ) (xs : List A) → position_from test 0 xs ≡ Some k → k < length xs
position_inside test k xs h = let below = position_below test 0 k xs h in omega arith
