-- Clauses whose variables rise have variables below one more than the number of variables.
use Rattle.std.proofs.Common.{◌≡◌, ℕ, zero, suc, ◌<◌, ◌≤◌, ◌+◌, Bool, true, ◌&&◌, ◌||◌, List, [], ◌∷◌, ◌++◌, refl, ◌∙◌, ap, arith, nat_lt, nat_le, sym, take, set}
use Rattle.std.proofs.Math.Bool.{or-false, or_assoc}
use Rattle.std.proofs.lemmas.Bool.{and_parts, and_from}
use Rattle.std.specs.List.{list_any, list_all}
use Rattle.std.proofs.lemmas.Bool.Decides.{nat_tests}
use Rattle.std.proofs.lemmas.List.Elements.{All-nil, All-cons}
use Rattle.clause_core.specs.declared.literal.Lit.{Lit}
use Rattle.clause_core.specs.Clauses.{rises, fits_in, is_inside, is_within}
use Rattle.clause_core.specs.Deletions.{always}
use Rattle.clause_core.specs.Steps.{VariablesBelow, AllVariablesBelow}

at_most : (a b : ℕ) → nat_le a b ≡ true → a < b + 1
at_most a b h = grind (arith, nat_tests)

pub VariablesBelow-fits : (variables low : ℕ) (c : List Lit) → fits_in variables low c ≡ true → VariablesBelow (variables + 1) c
VariablesBelow-fits variables low [] h = All-nil (λ l. l.variable < variables + 1)
VariablesBelow-fits variables low (l ∷ ls) h =
    let p = and_parts (nat_lt low l.variable) (nat_le l.variable variables && fits_in variables l.variable ls) h in
    let q = and_parts (nat_le l.variable variables) (fits_in variables l.variable ls) p.1 in
    All-cons (λ l. l.variable < variables + 1) l ls (at_most l.variable variables q.0) (VariablesBelow-fits variables l.variable ls q.1)

pub VariablesBelow-within : (variables : ℕ) (c : List Lit) → is_within variables c ≡ true → VariablesBelow (variables + 1) c
VariablesBelow-within variables [] h = All-nil (λ l. l.variable < variables + 1)
VariablesBelow-within variables (l ∷ ls) h =
    let p = and_parts (is_inside variables l) (is_within variables ls) h in
    let q = and_parts (nat_lt 0 l.variable) (nat_le l.variable variables) p.0 in
    All-cons (λ l. l.variable < variables + 1) l ls (at_most l.variable variables q.1) (VariablesBelow-within variables ls p.1)

pub AllVariablesBelow-within : (variables : ℕ) (f : List (List Lit)) → list_all (is_within variables) f ≡ true → AllVariablesBelow (variables + 1) f
AllVariablesBelow-within variables [] h = All-nil (VariablesBelow (variables + 1))
AllVariablesBelow-within variables (c ∷ cs) h =
    let p = and_parts (is_within variables c) (list_all (is_within variables) cs) h in
    All-cons (VariablesBelow (variables + 1)) c cs (VariablesBelow-within variables c p.0) (AllVariablesBelow-within variables cs p.1)

positive : (a b : ℕ) → nat_lt a b ≡ true → nat_lt 0 b ≡ true
positive a b h = grind (arith, nat_tests)

within-fits : (variables low : ℕ) (c : List Lit) → fits_in variables low c ≡ true → is_within variables c ≡ true
within-fits variables low [] h = refl
within-fits variables low (l ∷ ls) h =
    let p = and_parts (nat_lt low l.variable) (nat_le l.variable variables && fits_in variables l.variable ls) h in
    let q = and_parts (nat_le l.variable variables) (fits_in variables l.variable ls) p.1 in
    ap (λ z. (z && nat_le l.variable variables) && is_within variables ls) (positive low l.variable p.0)
    ∙ ap (λ z. z && is_within variables ls) q.0
    ∙ within-fits variables l.variable ls q.1

-- a clause whose variables rise is one of the formula's variables
pub is_within-rises : (variables : ℕ) (c : List Lit) → rises variables c ≡ true → is_within variables c ≡ true
is_within-rises variables c h = within-fits variables 0 c h

pub list_all-push : {X : Type 0} (p : X → Bool) (xs : List X) (y : X) → list_all p xs ≡ true → p y ≡ true → list_all p (xs ++ y ∷ []) ≡ true
list_all-push p [] y h k = ap (λ z. z && true) k
list_all-push p (x ∷ xs) y h k =
    let q = and_parts (p x) (list_all p xs) h in
    ap (λ z. z && list_all p (xs ++ y ∷ [])) q.0 ∙ list_all-push p xs y q.1 k

pub list_all-front : {X : Type 0} (p : X → Bool) (xs : List X) (y : X) → list_all p (xs ++ y ∷ []) ≡ true → (list_all p xs ≡ true) × (p y ≡ true)
list_all-front p [] y h = (refl, (and_parts (p y) true h).0)
list_all-front p (x ∷ xs) y h =
    let q = and_parts (p x) (list_all p (xs ++ y ∷ [])) h in
    let r = list_all-front p xs y q.1 in
    (ap (λ z. z && list_all p xs) q.0 ∙ r.0, r.1)

pub list_all-take : {X : Type 0} (p : X → Bool) (n : ℕ) (xs : List X) → list_all p xs ≡ true → list_all p (take n xs) ≡ true
list_all-take p zero xs h = refl
list_all-take p (suc n) [] h = refl
list_all-take p (suc n) (x ∷ xs) h =
    let q = and_parts (p x) (list_all p xs) h in
    and_from (p x) (list_all p (take n xs)) q.0 (list_all-take p n xs q.1)

pub list_any-push : {X : Type 0} (p : X → Bool) (xs : List X) (y : X) → list_any p (xs ++ y ∷ []) ≡ (list_any p xs || p y)
list_any-push p [] y = or-false (p y)
list_any-push p (x ∷ xs) y = ap (λ z. p x || z) (list_any-push p xs y) ∙ sym (or_assoc (p x) (list_any p xs) (p y))

pub list_all-set : {X : Type 0} (p : X → Bool) (xs : List X) (i : ℕ) (y : X) → list_all p xs ≡ true → p y ≡ true → list_all p (set xs i y) ≡ true
list_all-set p [] i y h k = h
list_all-set p (x ∷ xs) zero y h k =
    let q = and_parts (p x) (list_all p xs) h in
    and_from (p y) (list_all p xs) k q.1
list_all-set p (x ∷ xs) (suc i) y h k =
    let q = and_parts (p x) (list_all p xs) h in
    and_from (p x) (list_all p (set xs i y)) q.0 (list_all-set p xs i y q.1 k)

at_least_one : (n : ℕ) → 1 ≤ n → nat_le 1 n ≡ true
at_least_one n h = grind (arith, nat_tests)

pub is_within-always : (variables : ℕ) → 1 ≤ variables → is_within variables always ≡ true
is_within-always variables h = ap (λ z. z && (z && true)) (at_least_one variables h)
