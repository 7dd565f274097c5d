-- A partial assignment forces no clause that is held exactly where it forces none that was ever held: where the part of a clause has
-- a true literal, or two that are open, so has the clause.
use Rattle.std.proofs.Common.{◌≡◌, ◌≢◌, ℕ, zero, suc, ◌<◌, ◌≤◌, ◌+◌, ◌||◌, Bool, true, false, inl, inr, List, [], ◌∷◌, cond, nat_le, length, get_or, set, Some, refl, sym, ◌∙◌, ap, subst, arith}
use Rattle.std.specs.Prelude.{slice_get}
use Rattle.std.specs.List.{list_any, list_all, All, Contains}
use Rattle.std.proofs.lemmas.Bool.{false≢true, cases_Bool, and_parts, and_from}
use Rattle.std.proofs.lemmas.Bool.Decides.{nat_tests}
use Rattle.std.proofs.lemmas.List.Elements.{All-nil, All-cons}
use Rattle.clause_core.specs.declared.literal.Lit.{Lit}
use Rattle.clause_core.specs.declared.truth.Truth.{Truth}
use Rattle.clause_core.specs.Clauses.{rank, ascends, is_set}
use Rattle.clause_core.specs.Deletions.{always, Thinned, whole, derived, deleted}
use Rattle.clause_core.specs.Freshness.{unforced, Unforced, IsFresh}
use Rattle.clause_core.specs.Values.{how_many, value, is_true, is_open}
use Rattle.clause_core.proofs.Always.{unforced-always}
use Rattle.clause_core.proofs.Ranges.{list_all-push, list_all-front, list_all-set}
use Rattle.freshness_laws.specs.Deletions.{FreshOverAll}

contains-later : {X : Type 0} (x y : X) (xs : List X) → Contains xs y → Contains (x ∷ xs) y
contains-later x y xs c = (suc c.0, omega (arith, c.1), c.2)

-- of a test on the elements of a list
module _ {X : Type 0} (p : X → Bool) where
  any-here : (x : X) (xs : List X) → p x ≡ true → list_any p (x ∷ xs) ≡ true
  any-here x xs h = ap (λ b. b || list_any p xs) h

  any-at : (xs : List X) (i : ℕ) (x : X) → i < length xs → get_or xs i x ≡ x → p x ≡ true → list_any p xs ≡ true
  any-at [] i x lt is h = absurd (omega arith)
  any-at (y ∷ ys) zero x lt is h = any-here y ys (subst (λ z. p z ≡ true) (sym is) h)
  any-at (y ∷ ys) (suc i) x lt is h = elim (cases_Bool (p y)) [
    | inl here ↦ any-here y ys here
    | inr isnt ↦ ap (λ b. b || list_any p ys) isnt ∙ any-at ys i x (omega arith) is h
  ]

  any-found : (xs : List X) → list_any p xs ≡ true → (x : X) × Contains xs x × (p x ≡ true)
  any-found [] h = absurd (false≢true h)
  any-found (y ∷ ys) h = elim (cases_Bool (p y)) [
    | inl here ↦ (y, (0, omega arith, refl), here)
    | inr isnt ↦
        let r = any-found ys (sym (ap (λ b. b || list_any p ys) isnt) ∙ h) in
        (r.0, contains-later y r.0 ys r.1, r.2)
  ]

  counted : (b : Bool) (x : X) (xs : List X) → p x ≡ b → how_many p (x ∷ xs) ≡ cond b 1 0 + how_many p xs
  counted b x xs h = ap (λ z. cond z 1 0 + how_many p xs) h

  many-later : (x : X) (xs : List X) → how_many p xs ≤ how_many p (x ∷ xs)
  many-later x xs = elim (cases_Bool (p x)) [
    | inl h ↦ let e = counted true x xs h in omega (arith, e)
    | inr h ↦ let e = counted false x xs h in omega (arith, e)
  ]

  one-at : (xs : List X) (i : ℕ) (x : X) → i < length xs → get_or xs i x ≡ x → p x ≡ true → 1 ≤ how_many p xs
  one-at [] i x lt is h = absurd (omega arith)
  one-at (y ∷ ys) zero x lt is h = let e = counted true y ys (subst (λ z. p z ≡ true) (sym is) h) in omega (arith, e)
  one-at (y ∷ ys) (suc i) x lt is h =
      let more = one-at ys i x (omega arith) is h in
      let later = many-later y ys in
      omega (arith, more, later)

  two-at : (xs : List X) (i j : ℕ) (x y : X) → i < length xs → j < length xs → get_or xs i x ≡ x → get_or xs j y ≡ y → x ≢ y → p x ≡ true → p y ≡ true
      → 2 ≤ how_many p xs
  two-at [] i j x y lt below is it apart h k = absurd (omega arith)
  two-at (z ∷ zs) zero zero x y lt below is it apart h k = absurd (apart (sym is ∙ it))
  two-at (z ∷ zs) zero (suc j) x y lt below is it apart h k =
      let e = counted true z zs (subst (λ w. p w ≡ true) (sym is) h) in
      let more = one-at zs j y (omega arith) it k in
      omega (arith, e, more)
  two-at (z ∷ zs) (suc i) zero x y lt below is it apart h k =
      let e = counted true z zs (subst (λ w. p w ≡ true) (sym it) k) in
      let more = one-at zs i x (omega arith) is h in
      omega (arith, e, more)
  two-at (z ∷ zs) (suc i) (suc j) x y lt below is it apart h k =
      let more = two-at zs i j x y (omega arith) (omega arith) is it apart h k in
      let later = many-later z zs in
      omega (arith, more, later)

  one-found : (xs : List X) → 1 ≤ how_many p xs → (x : X) × Contains xs x × (p x ≡ true)
  one-found [] h = absurd (omega arith)
  one-found (y ∷ ys) h = elim (cases_Bool (p y)) [
    | inl here ↦ (y, (0, omega arith, refl), here)
    | inr isnt ↦
        let e = counted false y ys isnt in
        let r = one-found ys (omega (arith, e, h)) in
        (r.0, contains-later y r.0 ys r.1, r.2)
  ]

  -- of clauses that were held and are held no more
  set-back : (xs : List X) (i : ℕ) (x y : X) → slice_get xs i ≡ Some x → p x ≡ true → list_all p (set xs i y) ≡ true → list_all p xs ≡ true
  set-back [] i x y is h all = cc
  set-back (z ∷ zs) zero x y is h all =
      let same : z ≡ x = cc in
      and_from (p z) (list_all p zs) (subst (λ w. p w ≡ true) (sym same) h) (and_parts (p y) (list_all p zs) all).1
  set-back (z ∷ zs) (suc i) x y is h all =
      let q = and_parts (p z) (list_all p (set zs i y)) all in
      and_from (p z) (list_all p zs) q.0 (set-back zs i x y is h q.1)

  got : (xs : List X) (j : ℕ) (x : X) → slice_get xs j ≡ Some x → list_all p xs ≡ true → p x ≡ true
  got [] j x is all = cc
  got (z ∷ zs) zero x is all =
      let same : z ≡ x = cc in
      subst (λ w. p w ≡ true) same (and_parts (p z) (list_all p zs) all).0
  got (z ∷ zs) (suc j) x is all = got zs j x is (and_parts (p z) (list_all p zs) all).1

  set-other : (xs : List X) (i j : ℕ) (x y : X) → i ≢ j → slice_get xs j ≡ Some x → list_all p (set xs i y) ≡ true → p x ≡ true
  set-other [] i j x y apart is all = cc
  set-other (z ∷ zs) zero zero x y apart is all = absurd (apart refl)
  set-other (z ∷ zs) zero (suc j) x y apart is all = got zs j x is (and_parts (p y) (list_all p zs) all).1
  set-other (z ∷ zs) (suc i) zero x y apart is all =
      let same : z ≡ x = cc in
      subst (λ w. p w ≡ true) same (and_parts (p z) (list_all p (set zs i y)) all).0
  set-other (z ∷ zs) (suc i) (suc j) x y apart is all = set-other zs i j x y (λ e. apart (ap suc e)) is (and_parts (p z) (list_all p (set zs i y)) all).1

  each : (xs : List X) → list_all p xs ≡ true → All (λ x. p x ≡ true) xs
  each [] all = All-nil (λ x. p x ≡ true)
  each (x ∷ xs) all =
      let q = and_parts (p x) (list_all p xs) all in
      All-cons (λ y. p y ≡ true) x xs q.0 (each xs q.1)

  all_of : (xs : List X) → All (λ x. p x ≡ true) xs → list_all p xs ≡ true
  all_of [] all = refl
  all_of (x ∷ xs) all = and_from (p x) (list_all p xs) (all 0 x (omega arith)) (all_of xs (λ k d lt. all (suc k) d (omega arith)))

le_of : (a b : ℕ) → nat_le a b ≡ true → a ≤ b
le_of a b h = grind (arith, nat_tests)

of_le : (a b : ℕ) → a ≤ b → nat_le a b ≡ true
of_le a b h = grind (arith, nat_tests)

or_true : (b : Bool) → (b || true) ≡ true
or_true true = refl
or_true false = refl

inside-of : (part clause : List Lit) (l : Lit) → All (λ m. Contains clause m) part → Contains part l → Contains clause l
inside-of part clause l within at = subst (λ z. Contains clause z) at.2 (within at.0 l at.1)

module _ (p : Lit → Bool) where
  -- each literal of what ascends from there has such a rank
  above-at : (low : ℕ) (part : List Lit) (i : ℕ) (l : Lit) → ascends low part ≡ true → i < length part → get_or part i l ≡ l → low ≤ rank l
  above-at low [] i l rises lt is = absurd (omega arith)
  above-at low (m ∷ ms) zero l rises lt is =
      subst (λ (z : Lit). low ≤ rank z) is (le_of low (rank m) (and_parts (nat_le low (rank m)) (ascends (rank m + 1) ms) rises).0)
  above-at low (m ∷ ms) (suc i) l rises lt is =
      let q = and_parts (nat_le low (rank m)) (ascends (rank m + 1) ms) rises in
      let first : low ≤ rank m = le_of low (rank m) q.0 in
      let later : rank m + 1 ≤ rank l = above-at (rank m + 1) ms i l q.1 (omega arith) is in
      omega (arith, first, later)

  two-inside : (low : ℕ) (part clause : List Lit) → ascends low part ≡ true → All (λ l. Contains clause l) part → 2 ≤ how_many p part → 2 ≤ how_many p clause
  two-inside low [] clause rises within many = absurd (omega arith)
  two-inside low (l ∷ ls) clause rises within many =
      let q = and_parts (nat_le low (rank l)) (ascends (rank l + 1) ls) rises in
      let rest : All (λ m. Contains clause m) ls = λ k d lt. within (suc k) d (omega arith) in
      elim (cases_Bool (p l)) [
        | inl h ↦
            let e = counted p true l ls h in
            let m = one-found p ls (omega (arith, e, many)) in
            let high : rank l + 1 ≤ rank m.0 = above-at (rank l + 1) ls m.1.0 m.0 q.1 m.1.1 m.1.2 in
            let apart : l ≢ m.0 = λ same. let ranks : rank l ≡ rank m.0 = ap rank same in omega (arith, high, ranks) in
            let here = within 0 l (omega arith) in
            let there = inside-of ls clause m.0 rest m.1 in
            two-at p clause here.0 there.0 l m.0 here.1 there.1 here.2 there.2 apart h m.2
        | inr h ↦
            let e = counted p false l ls h in
            two-inside (rank l + 1) ls clause q.1 rest (omega (arith, e, many))
      ]

-- what leaves a part unforced leaves the clause so
unforced-part : (vs : List Truth) (part clause : List Lit) → is_set part ≡ true → All (λ l. Contains clause l) part → unforced vs part ≡ true → unforced vs clause ≡ true
unforced-part vs part clause in_order within h =
    let truths : Lit → Bool = λ l. is_true (value vs l) in
    let opens : Lit → Bool = λ l. is_open (value vs l) in
    elim (cases_Bool (list_any truths part)) [
      | inl has ↦
          let m = any-found truths part has in
          let there = inside-of part clause m.0 within m.1 in
          ap (λ b. b || nat_le 2 (how_many opens clause)) (any-at truths clause there.0 m.0 there.1 there.2 m.2)
      | inr hasnt ↦
          let many : 2 ≤ how_many opens part = le_of 2 (how_many opens part) (sym (ap (λ b. b || nat_le 2 (how_many opens part)) hasnt) ∙ h) in
          let both : 2 ≤ how_many opens clause = two-inside opens 0 part clause in_order within many in
          ap (λ b. list_any truths clause || b) (of_le 2 (how_many opens clause) both) ∙ or_true (list_any truths clause)
    ]

-- clauses that are held are sets too
sets-left : (all held : List (List Lit)) → Thinned all held → list_all is_set all ≡ true → list_all is_set held ≡ true
sets-left all held (whole cs) sets = sets
sets-left all held (derived cs ds c t) sets =
    let q = list_all-front is_set cs c sets in
    list_all-push is_set ds c (sets-left cs ds t q.0) q.1
sets-left all held (deleted cs ds i j c part t apart at_i at_j within) sets = list_all-set is_set ds i always (sets-left cs ds t sets) refl

unforced-left : (vs : List Truth) (all held : List (List Lit)) → Thinned all held → list_all (unforced vs) all ≡ true → list_all (unforced vs) held ≡ true
unforced-left vs all held (whole cs) un = un
unforced-left vs all held (derived cs ds c t) un =
    let q = list_all-front (unforced vs) cs c un in
    list_all-push (unforced vs) ds c (unforced-left vs cs ds t q.0) q.1
unforced-left vs all held (deleted cs ds i j c part t apart at_i at_j within) un =
    list_all-set (unforced vs) ds i always (unforced-left vs cs ds t un) (unforced-always vs)

unforced-all : (vs : List Truth) (all held : List (List Lit)) → Thinned all held → list_all is_set all ≡ true → list_all (unforced vs) held ≡ true
    → list_all (unforced vs) all ≡ true
unforced-all vs all held (whole cs) sets un = un
unforced-all vs all held (derived cs ds c t) sets un =
    let q = list_all-front (unforced vs) ds c un in
    let s = list_all-front is_set cs c sets in
    list_all-push (unforced vs) cs c (unforced-all vs cs ds t s.0 q.0) q.1
unforced-all vs all held (deleted cs ds i j c part t apart at_i at_j within) sets un =
    let in_order : is_set part ≡ true = got is_set ds j part at_j (sets-left cs ds t sets) in
    let of_part : unforced vs part ≡ true = set-other (unforced vs) ds i j part always apart at_j un in
    let of_clause : unforced vs c ≡ true = unforced-part vs part c in_order within of_part in
    unforced-all vs cs ds t sets (set-back (unforced vs) ds i c always at_i of_clause un)

fresh-with : (held more : List (List Lit)) (clause : List Lit) → ((vs : List Truth) → Unforced held vs → Unforced more vs) → IsFresh held clause → IsFresh more clause
fresh-with held more clause goes fresh =
    let shows = fresh.2 in
    (fresh.0, fresh.1, record { inside = shows.inside; others = shows.others; itself = shows.itself; unforced = goes fresh.1 shows.unforced })

pub fresh_over_all : FreshOverAll
fresh_over_all all held clause sets t = (
  fresh-with held all clause (λ vs un. each (unforced vs) all (unforced-all vs all held t sets (all_of (unforced vs) held un))),
  fresh-with all held clause (λ vs un. each (unforced vs) held (unforced-left vs all held t (all_of (unforced vs) all un))),
)
