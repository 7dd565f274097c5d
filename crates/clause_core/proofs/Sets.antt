-- The set of some literals stands in order, and holds those literals and no others.
use Rattle.std.proofs.Common.{◌≡◌, ◌≢◌, ℕ, zero, suc, ◌<◌, ◌≤◌, ◌+◌, ◌*◌, Bool, true, false, ◌||◌, inl, inr, List, [], ◌∷◌, length, get_or, ◌&&◌, refl, sym, ◌∙◌, ap, subst, arith, cond, nat_lt, nat_le}
use Rattle.std.proofs.Math.Bool.{or-false, or_assoc, or_self_left}
use Rattle.std.proofs.lemmas.Bool.{and_parts, cases_Bool, and_from}
use Rattle.std.specs.List.{list_all, list_any, insert}
use Rattle.std.proofs.lemmas.Bool.Decides.{nat_tests}
use Rattle.clause_core.specs.declared.literal.Lit.{Lit}
use Rattle.clause_core.specs.Clauses.{rank, ascends, is_set, rises, fits_in, inserted, with_all, set_of, place_in}

lower : (a b : ℕ) → nat_lt a b ≡ true → a < b
lower a b h = grind (arith, nat_tests)

not_lower : (a b : ℕ) → nat_lt a b ≡ false → b ≤ a
not_lower a b h = grind (arith, nat_tests)

at_least_none : (a : ℕ) → nat_le 0 a ≡ true
at_least_none a = grind (arith, nat_tests)

not_below : (a : ℕ) → nat_lt a a ≡ false
not_below a = grind (arith, nat_tests)

above : (a b : ℕ) → nat_lt a b ≡ true → nat_le (a + 1) b ≡ true
above a b h = grind (arith, nat_tests)

or_swap_in : (a b c : Bool) → (a || (b || c)) ≡ ((b || a) || c)
or_swap_in true true c = refl
or_swap_in true false c = refl
or_swap_in false true c = refl
or_swap_in false false c = refl

same_literal : (v w : ℕ) (n m : Bool) → 2 * v + cond n 1 0 ≡ 2 * w + cond m 1 0 → (v ≡ w) × (n ≡ m)
same_literal v w true true h = (omega arith, refl)
same_literal v w false false h = (omega arith, refl)
same_literal v w true false h = absurd (omega arith)
same_literal v w false true h = absurd (omega arith)

pub rank-same : (l m : Lit) → rank l ≡ rank m → l ≡ m
rank-same l m h =
    let s = same_literal l.variable m.variable l.negative m.negative h in
    let make : ℕ → Bool → Lit = λ v n. record { variable = v; negative = n } in
    ap (λ v. make v l.negative) s.0 ∙ ap (make m.variable) s.1

-- the three cases of an insertion
record Cases (l m : Lit) (ms : List Lit) : Type 0 where
  further : nat_lt (rank m) (rank l) ≡ true → inserted l (m ∷ ms) ≡ m ∷ inserted l ms
  here : nat_lt (rank m) (rank l) ≡ false → nat_lt (rank l) (rank m) ≡ true → inserted l (m ∷ ms) ≡ l ∷ m ∷ ms
  there : nat_lt (rank m) (rank l) ≡ false → nat_lt (rank l) (rank m) ≡ false → inserted l (m ∷ ms) ≡ m ∷ ms

cases : (l m : Lit) (ms : List Lit) → Cases l m ms
cases l m ms =
    let step : Bool → Bool → List Lit = λ a b. cond a (m ∷ inserted l ms) (cond b (l ∷ m ∷ ms) (m ∷ ms)) in
    record {
      further = λ h. ap (λ a. step a (nat_lt (rank l) (rank m))) h;
      here = λ h k. ap (λ a. step a (nat_lt (rank l) (rank m))) h ∙ ap (λ b. step false b) k;
      there = λ h k. ap (λ a. step a (nat_lt (rank l) (rank m))) h ∙ ap (λ b. step false b) k;
    }

place-further : (l m : Lit) (ms : List Lit) → nat_lt (rank m) (rank l) ≡ true → place_in l (m ∷ ms) ≡ suc (place_in l ms)
place-further l m ms h = ap (λ a. cond a (suc (place_in l ms)) zero) h

place-here : (l m : Lit) (ms : List Lit) → nat_lt (rank m) (rank l) ≡ false → place_in l (m ∷ ms) ≡ 0
place-here l m ms h = ap (λ a. cond a (suc (place_in l ms)) zero) h

pub inserted-present : (l : Lit) (c : List Lit) (d : Lit) → place_in l c < length c → get_or c (place_in l c) d ≡ l → inserted l c ≡ c
inserted-present l [] d lt e = absurd (omega arith)
inserted-present l (m ∷ ms) d lt e = elim (cases_Bool (nat_lt (rank m) (rank l))) [
  | inl h ↦
      let p = place-further l m ms h in
      (cases l m ms).further h ∙ ap (λ z. m ∷ z) (inserted-present l ms d (omega arith) (sym (ap (λ i. get_or (m ∷ ms) i d) p) ∙ e))
  | inr h ↦
      let is : m ≡ l = sym (ap (λ i. get_or (m ∷ ms) i d) (place-here l m ms h)) ∙ e in
      let k : nat_lt (rank l) (rank m) ≡ false = subst (λ (z : Lit). nat_lt (rank l) (rank z) ≡ false) (sym is) (not_below (rank l)) in
      (cases l m ms).there h k
]

pub inserted-absent : (l : Lit) (c : List Lit) (d : Lit) → (place_in l c < length c → get_or c (place_in l c) d ≢ l) → inserted l c ≡ insert c (place_in l c) l
inserted-absent l [] d ne = refl
inserted-absent l (m ∷ ms) d ne = elim (cases_Bool (nat_lt (rank m) (rank l))) [
  | inl h ↦
      let p = place-further l m ms h in
      (cases l m ms).further h
      ∙ ap (λ z. m ∷ z) (inserted-absent l ms d (λ lt e. ne (omega arith) (ap (λ i. get_or (m ∷ ms) i d) p ∙ e)))
      ∙ ap (λ i. insert (m ∷ ms) i l) (sym p)
  | inr h ↦
      let p = place-here l m ms h in
      elim (cases_Bool (nat_lt (rank l) (rank m))) [
        | inl k ↦ (cases l m ms).here h k ∙ ap (λ i. insert (m ∷ ms) i l) (sym p)
        | inr k ↦
            let a = not_lower (rank m) (rank l) h in
            let b = not_lower (rank l) (rank m) k in
            absurd (ne (omega arith) (ap (λ i. get_or (m ∷ ms) i d) p ∙ rank-same m l (omega arith)))
      ]
]

pub inserted-past : (l : Lit) (c : List Lit) (i : ℕ) → i ≡ place_in l c → false ≡ nat_lt i (length c) → inserted l c ≡ insert c i l
inserted-past l c i e h =
    let past = not_lower i (length c) (sym h) in
    inserted-absent l c l (λ lt. absurd (omega arith)) ∙ ap (λ k. insert c k l) (sym e)

pub inserted-there : (l m : Lit) (c : List Lit) (i : ℕ) (d : Lit) → i ≡ place_in l c → true ≡ nat_lt i (length c) → m ≡ get_or c i d → rank m ≡ rank l → inserted l c ≡ c
inserted-there l m c i d e h g r =
    let inside = lower i (length c) (sym h) in
    inserted-present l c d (omega arith) (ap (λ k. get_or c k d) (sym e) ∙ sym g ∙ rank-same m l r)

pub inserted-other : (l m : Lit) (c : List Lit) (i : ℕ) (d : Lit) → i ≡ place_in l c → m ≡ get_or c i d → rank m ≢ rank l → inserted l c ≡ insert c i l
inserted-other l m c i d e g ne =
    inserted-absent l c d (λ _ is. ne (ap rank (g ∙ ap (λ k. get_or c k d) e ∙ is))) ∙ ap (λ k. insert c k l) (sym e)

list_all-inserted : (p : Lit → Bool) (l : Lit) (c : List Lit) → p l ≡ true → list_all p c ≡ true → list_all p (inserted l c) ≡ true
list_all-inserted p l [] pl h = and_from (p l) true pl refl
list_all-inserted p l (m ∷ ms) pl h =
    let q = and_parts (p m) (list_all p ms) h in
    let same : List Lit → Type 0 = λ z. list_all p z ≡ true in
    elim (cases_Bool (nat_lt (rank m) (rank l))) [
      | inl a ↦ subst same (sym ((cases l m ms).further a)) (and_from (p m) (list_all p (inserted l ms)) q.0 (list_all-inserted p l ms pl q.1))
      | inr a ↦ elim (cases_Bool (nat_lt (rank l) (rank m))) [
        | inl b ↦ subst same (sym ((cases l m ms).here a b)) (and_from (p l) (list_all p (m ∷ ms)) pl h)
        | inr b ↦ subst same (sym ((cases l m ms).there a b)) h
      ]
    ]

pub list_all-with_all : (p : Lit → Bool) (c ls : List Lit) → list_all p c ≡ true → list_all p ls ≡ true → list_all p (with_all c ls) ≡ true
list_all-with_all p c [] h k = h
list_all-with_all p c (l ∷ ls) h k =
    let q = and_parts (p l) (list_all p ls) k in
    list_all-with_all p (inserted l c) ls (list_all-inserted p l c q.0 h) q.1

ascends-inserted : (low : ℕ) (l : Lit) (c : List Lit) → nat_le low (rank l) ≡ true → ascends low c ≡ true → ascends low (inserted l c) ≡ true
ascends-inserted low l [] pl h = and_from (nat_le low (rank l)) true pl refl
ascends-inserted low l (m ∷ ms) pl h =
    let q = and_parts (nat_le low (rank m)) (ascends (rank m + 1) ms) h in
    let same : List Lit → Type 0 = λ z. ascends low z ≡ true in
    elim (cases_Bool (nat_lt (rank m) (rank l))) [
      | inl a ↦ subst same (sym ((cases l m ms).further a)) (and_from (nat_le low (rank m)) (ascends (rank m + 1) (inserted l ms)) q.0 (ascends-inserted (rank m + 1) l ms (above (rank m) (rank l) a) q.1))
      | inr a ↦ elim (cases_Bool (nat_lt (rank l) (rank m))) [
        | inl b ↦ subst same (sym ((cases l m ms).here a b)) (and_from (nat_le low (rank l)) (ascends (rank l + 1) (m ∷ ms)) pl (and_from (nat_le (rank l + 1) (rank m)) (ascends (rank m + 1) ms) (above (rank l) (rank m) b) q.1))
        | inr b ↦ subst same (sym ((cases l m ms).there a b)) h
      ]
    ]

pub is_set-with_all : (c ls : List Lit) → is_set c ≡ true → is_set (with_all c ls) ≡ true
is_set-with_all c [] h = h
is_set-with_all c (l ∷ ls) h = is_set-with_all (inserted l c) ls (ascends-inserted 0 l c (at_least_none (rank l)) h)

list_any-inserted : (p : Lit → Bool) (l : Lit) (c : List Lit) → list_any p (inserted l c) ≡ (p l || list_any p c)
list_any-inserted p l [] = refl
list_any-inserted p l (m ∷ ms) = elim (cases_Bool (nat_lt (rank m) (rank l))) [
  | inl a ↦ ap (list_any p) ((cases l m ms).further a) ∙ ap (λ z. p m || z) (list_any-inserted p l ms) ∙ or_swap_in (p m) (p l) (list_any p ms) ∙ or_assoc (p l) (p m) (list_any p ms)
  | inr a ↦ elim (cases_Bool (nat_lt (rank l) (rank m))) [
    | inl b ↦ ap (list_any p) ((cases l m ms).here a b)
    | inr b ↦
        let e = not_lower (rank m) (rank l) a in
        let f = not_lower (rank l) (rank m) b in
        let is : l ≡ m = rank-same l m (omega arith) in
        ap (list_any p) ((cases l m ms).there a b) ∙ sym (or_self_left (p m) (list_any p ms)) ∙ ap (λ (z : Lit). p z || (p m || list_any p ms)) (sym is)
  ]
]

list_any-with_all : (p : Lit → Bool) (c ls : List Lit) → list_any p (with_all c ls) ≡ (list_any p ls || list_any p c)
list_any-with_all p c [] = refl
list_any-with_all p c (l ∷ ls) =
    list_any-with_all p (inserted l c) ls ∙ ap (λ z. list_any p ls || z) (list_any-inserted p l c) ∙ or_swap_in (list_any p ls) (p l) (list_any p c)

pub list_any-set_of : (p : Lit → Bool) (ls : List Lit) → list_any p (set_of ls) ≡ list_any p ls
list_any-set_of p ls = list_any-with_all p [] ls ∙ or-false (list_any p ls)

rank_from : (low bound v : ℕ) (b : Bool) → bound ≤ 2 * low + 2 → nat_lt low v ≡ true → nat_le bound (2 * v + cond b 1 0) ≡ true
rank_from low bound v true le h = let lt = lower low v h in grind (arith, nat_tests)
rank_from low bound v false le h = let lt = lower low v h in grind (arith, nat_tests)

rank_to : (v : ℕ) (b : Bool) → 2 * v + cond b 1 0 + 1 ≤ 2 * v + 2
rank_to v true = omega arith
rank_to v false = omega arith

ascends-fits : (variables low bound : ℕ) (c : List Lit) → bound ≤ 2 * low + 2 → fits_in variables low c ≡ true → ascends bound c ≡ true
ascends-fits variables low bound [] le h = refl
ascends-fits variables low bound (l ∷ ls) le h =
    let p = and_parts (nat_lt low l.variable) (nat_le l.variable variables && fits_in variables l.variable ls) h in
    let q = and_parts (nat_le l.variable variables) (fits_in variables l.variable ls) p.1 in
    and_from (nat_le bound (rank l)) (ascends (rank l + 1) ls) (rank_from low bound l.variable l.negative le p.0) (ascends-fits variables l.variable (rank l + 1) ls (rank_to l.variable l.negative) q.1)

-- a clause whose variables rise is a set
pub is_set-rises : (variables : ℕ) (c : List Lit) → rises variables c ≡ true → is_set c ≡ true
is_set-rises variables c h = ascends-fits variables 0 0 c (omega arith) h
