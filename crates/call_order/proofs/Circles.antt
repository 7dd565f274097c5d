-- Where the order leaves a number out, some number reaches itself.
use Rattle.std.proofs.Common.{◌≡◌, ℕ, zero, suc, ◌+◌, ◌<◌, ◌≤◌, true, false, not, eqb, List, [], ◌∷◌, ◌++◌, length, None, refl, arith, sym, subst, ⊎_elim}
use Rattle.std.specs.List.{IsDistinct, list_all}
use Rattle.std.proofs.lemmas.Bool.{cases_Bool, and_cases, not-true, not-false, both_ways}
use Rattle.std.proofs.lemmas.Map.Keys.{IsDistinct-push}
use Rattle.std.specs.Cmp.{nat_eq_equiv}
use Rattle.std.proofs.lemmas.Map.Steps.{length-le_from_distinct_below, le-length_from_below}
use Rattle.std.proofs.lemmas.List.{length_push}
use Rattle.call_order.specs.Uses.{Graph, uses_at, is_among, Reaches, directly, through, is_ready, first_ready, first_from, order_of}
use Rattle.call_order.proofs.Firsts.{first_from-passes, first_from-none}
use Rattle.call_order.proofs.Members.{is_among-cases, is_among-either, list_all-fails}
use Rattle.call_order.proofs.Orders.{option_cases, order_of-ends}

-- one use further
pub reaches-step : (g : Graph) (a b c : ℕ) → Reaches g a b → is_among c (uses_at g b) ≡ true → Reaches g a c
reaches-step g a b c (directly _ _ u) used = through a b c u (directly b c used)
reaches-step g a b c (through _ d _ u r) used = through a d c u (reaches-step g d b c r used)

-- a circle
abbrev pub Circle : Graph → Type 0
Circle g = (k : ℕ) × (k < length g) × Reaches g k k

-- each number that is left out uses another that is
abbrev LeadsOn : Graph → List ℕ → Type 0
LeadsOn g taken = (k : ℕ) → k < length g → is_among k taken ≡ false → (u : ℕ) × (is_among u (uses_at g k) ≡ true) × (u < length g) × (is_among u taken ≡ false)

-- a way of numbers that are left out, of which each reaches the last
record IsWay (g : Graph) (way : List ℕ) (k : ℕ) : Type 0 where
  distinct : IsDistinct eqb way
  below : (q : ℕ) → is_among q way ≡ true → q < length g
  reach : (q : ℕ) → is_among q way ≡ true → Reaches g q k
  apart : is_among k way ≡ false

one : (q k : ℕ) → is_among q (k ∷ []) ≡ true → q ≡ k
one q k m = ⊎_elim (λ e. e) (λ none. cc) (is_among-cases q k [] m)

-- the way with its last number
longer : (g : Graph) (way : List ℕ) (k : ℕ) → IsWay g way k → k < length g → (q : ℕ) → is_among q (way ++ k ∷ []) ≡ true → q < length g
longer g way k is here q m =
    ⊎_elim (λ r. is.below q r) (λ last. let e : q ≡ k = one q k last in omega arith) (is_among-either q way (k ∷ []) m)

led : (g : Graph) (way : List ℕ) (k u : ℕ) → IsWay g way k → is_among u (uses_at g k) ≡ true → (q : ℕ) → is_among q (way ++ k ∷ []) ≡ true → Reaches g q u
led g way k u is used q m =
    ⊎_elim (λ r. reaches-step g q k u (is.reach q r) used)
    (λ last. subst (λ (n : ℕ). Reaches g n u) (sym (one q k last)) (directly k u used))
    (is_among-either q way (k ∷ []) m)

walk : (g : Graph) (taken : List ℕ) → LeadsOn g taken → (steps : ℕ) (way : List ℕ) (k : ℕ) → IsWay g way k → k < length g → is_among k taken ≡ false → length g ≤ length way + steps → Circle g
walk g taken on zero way k is here out enough =
    let d = IsDistinct-push nat_eq_equiv way k is.distinct is.apart in
    let l : length (way ++ k ∷ []) ≤ length g = length-le_from_distinct_below (way ++ k ∷ []) (length g) d (longer g way k is here) in
    let p = length_push way k in
    absurd (omega arith)
walk g taken on (suc steps) way k is here out enough =
    let onward = on k here out in
    let p = length_push way k in
    ⊎_elim (λ again. (onward.0, onward.2, led g way k onward.0 is onward.1 onward.0 again))
    (λ new. walk g taken on steps (way ++ k ∷ []) onward.0
    (record {
      distinct = IsDistinct-push nat_eq_equiv way k is.distinct is.apart;
      below = longer g way k is here;
      reach = led g way k onward.0 is onward.1;
      apart = new;
    })
    onward.2 onward.3 (omega arith))
    (cases_Bool (is_among onward.0 (way ++ k ∷ [])))

leads_on : (g : Graph) (taken : List ℕ) → ((k used : ℕ) → is_among used (uses_at g k) ≡ true → used < length g) → first_ready g taken ≡ None → LeadsOn g taken
leads_on g taken all none k below out =
    let unready : is_ready g taken k ≡ false = first_from-none (is_ready g taken) 0 (length g) none k (omega arith) (omega arith) in
    ⊎_elim (λ gone. absurd (both_ways _ out (not-false _ gone)))
    (λ some. let p = list_all-fails (λ n. is_among n taken) (uses_at g k) some in (p.0, p.1, all k p.0 p.1, p.2))
    (and_cases (not (is_among k taken)) (list_all (λ n. is_among n taken) (uses_at g k)) unready)

-- a number below the length that is left out
left_out : (g : Graph) (taken : List ℕ) → length taken < length g → (k : ℕ) × (k < length g) × (is_among k taken ≡ false)
left_out g taken short =
    ⊎_elim (λ none. let all : (q : ℕ) → q < length g → is_among q taken ≡ true =
    λ (q : ℕ) below. not-false _ (first_from-none (λ (q : ℕ). not (is_among q taken)) 0 (length g) none q (omega arith) (omega arith)) in
    let l : length g ≤ length taken = le-length_from_below taken (length g) all in
    absurd (omega arith))
    (λ some. let p = first_from-passes (λ (q : ℕ). not (is_among q taken)) 0 (length g) some.0 some.1 in
    (some.0, omega arith, not-true _ p.0))
    (option_cases (first_from (λ (q : ℕ). not (is_among q taken)) 0 (length g)))

pub some_reaches : (g : Graph) → ((k used : ℕ) → is_among used (uses_at g k) ≡ true → used < length g) → length (order_of g) < length g → Circle g
unfolding IsDistinct
some_reaches g all short =
    let start = left_out g (order_of g) short in
    walk g (order_of g) (leads_on g (order_of g) all (order_of-ends g short)) (length g) [] start.0
    (record { distinct = tt; below = λ q m. cc; reach = λ q m. cc; apart = refl })
    start.1 start.2 (omega arith)
