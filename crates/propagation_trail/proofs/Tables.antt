-- The trail and its tables, when a literal becomes true or is taken back.
use Rattle.std.proofs.Common.{◌≡◌, ◌≢◌, ◌⊎◌, ℕ, zero, suc, ◌<◌, ◌≤◌, ◌+◌, ◌-◌, ◌*◌, ◌/◌, ◌%◌, Bool, true, false, eqb, List, [], ◌∷◌, ◌++◌, length, get_or, set, take, drop, refl, sym, ◌∙◌, ap, subst, inl, inr, ⊎_elim, arith}
use Rattle.std.specs.List.{Contains}
use Rattle.std.proofs.lemmas.Bool.{eqb-true, eqb-false, cases_lt}
use Rattle.std.proofs.lemmas.List.{get_or-set_same, get_or-set_other, get_or_default, get_or_append_left, get_or_at, get_or-take, length-set, length-append, length-take, take_at}
use Rattle.std.proofs.lemmas.List.Elements.{Contains-append_left, Contains-append_right, Contains-push, Contains-push_cases, Contains-get_or}
use Rattle.clause_core.specs.declared.truth.Truth.{Truth}
use Rattle.clause_core.specs.declared.truth.Truth.TheVariants.{Open, True, False}
use Rattle.clause_core.specs.Values.{signed_truth, opposite}
use Rattle.propagation_trail.specs.Codes.{negated, truth, put}
use Rattle.propagation_trail.specs.Trails.{IsConsistent, IsRising, IsTabled}
use Rattle.propagation_trail.proofs.Signs.{negated-half, negated≢, same_half, truth-negated, truth-put, truth-put_other, open-half, within-true}

pub cases_eq : (a b : ℕ) → (a ≡ b) ⊎ (a ≡ b → ⊥)
cases_eq a b = by_test (eqb a b) refl
  where
    by_test : (t : Bool) → eqb a b ≡ t → (a ≡ b) ⊎ (a ≡ b → ⊥)
    by_test true e = inl (eqb-true a b e)
    by_test false e = inr (eqb-false a b e)

-- a place in a list with one more element
push_place : (i n m : ℕ) → m ≡ n + 1 → i < m → (i < n) ⊎ (i ≡ n)
push_place i n m e lt = ⊎_elim (λ l. inl l) (λ r. inr (omega arith)) (cases_lt i n)

opposite-true : (t : Truth) → opposite t ≡ True → t ≡ False
opposite-true False e = refl
opposite-true True e = cc
opposite-true Open e = cc

-- what is not false has no negation on the trail
pub free : (lits : List ℕ) (vs : List Truth) (c : ℕ) → IsConsistent lits vs → (truth vs c ≡ False → ⊥) → Contains lits (negated c) → ⊥
free lits vs c h n m = n (opposite-true (truth vs c) (sym (truth-negated vs c) ∙ h.holds (negated c) m))

pub IsTabled-put : (truths vs : List Truth) (c : ℕ) (t : Truth) → c < 2 * length vs → IsTabled truths vs → IsTabled (set (set truths c t) (negated c) (opposite t)) (put vs c t)
IsTabled-put truths vs c t lt h = record {
  size = length-set (set truths c t) (negated c) (opposite t) ∙ length-set truths c t ∙ h.size ∙ ap (λ n. 2 * n) (sym (length-set vs (c / 2) (signed_truth (eqb (c % 2) 1) t)));
  each = λ r. spot r (cases_eq r (negated c)) (cases_eq r c);
}
  where
    big : negated c < length (set truths c t)
    big = let s = h.size in let e = length-set truths c t in omega arith

    small : c < length truths
    small = let s = h.size in omega arith

    spot : (r : ℕ) → (r ≡ negated c) ⊎ (r ≡ negated c → ⊥) → (r ≡ c) ⊎ (r ≡ c → ⊥) → get_or (set (set truths c t) (negated c) (opposite t)) r Open ≡ truth (put vs c t) r
    spot r (inl e) q =
        subst (λ z. get_or (set (set truths c t) (negated c) (opposite t)) z Open ≡ truth (put vs c t) z) (sym e)
        (get_or-set_same (set truths c t) (negated c) (opposite t) Open big ∙ sym (truth-negated (put vs c t) c ∙ ap opposite (truth-put vs c t lt)))
    spot r (inr n) (inl e) =
        get_or-set_other (set truths c t) (negated c) r (opposite t) Open n
        ∙ subst (λ z. get_or (set truths c t) z Open ≡ truth (put vs c t) z) (sym e) (get_or-set_same truths c t Open small ∙ sym (truth-put vs c t lt))
    spot r (inr n) (inr m) =
        get_or-set_other (set truths c t) (negated c) r (opposite t) Open n
        ∙ get_or-set_other truths c r t Open m
        ∙ h.each r
        ∙ sym (truth-put_other vs c r t (λ e. n (same_half r c e m)))

true-apart : (lits : List ℕ) (vs : List Truth) (c x : ℕ) → IsConsistent lits vs → truth vs c ≡ Open → truth vs x ≡ True → x / 2 ≢ c / 2
true-apart lits vs c x h o e k = let p = open-half vs x c o k in cc

true≢false : (t : Truth) → t ≡ True → opposite t ≡ True → ⊥
true≢false t e k = let f = opposite-true t k in cc

pub IsConsistent-push : (lits : List ℕ) (vs : List Truth) (c : ℕ) → IsConsistent lits vs → truth vs c ≡ Open → c < 2 * length vs → IsConsistent (lits ++ c ∷ []) (put vs c True)
IsConsistent-push lits vs c h o lt = record {
  holds = λ x m. ⊎_elim (λ l. truth-put_other vs c x True (true-apart lits vs c x h o (h.holds x l)) ∙ h.holds x l) (λ e. subst (λ z. truth (put vs c True) z ≡ True) e (truth-put vs c True lt)) (Contains-push_cases lits c x m);
  known = λ x e. find x e (cases_eq (x / 2) (c / 2)) (cases_eq x c);
  apart = λ i j li lj e. place i j (within i li) (within j lj) e;
}
  where
    find : (x : ℕ) → truth (put vs c True) x ≡ True → (x / 2 ≡ c / 2) ⊎ (x / 2 ≡ c / 2 → ⊥) → (x ≡ c) ⊎ (x ≡ c → ⊥) → Contains (lits ++ c ∷ []) x
    find x e (inl k) (inl s) = subst (Contains (lits ++ c ∷ [])) (sym s) (Contains-push lits c)
    find x e (inl k) (inr n) =
        let other : truth (put vs c True) (negated c) ≡ True = subst (λ z. truth (put vs c True) z ≡ True) (same_half x c k n) e in
        absurd (true≢false (truth (put vs c True) c) (truth-put vs c True lt) (sym (truth-negated (put vs c True) c) ∙ other))
    find x e (inr k) q = Contains-append_left lits (c ∷ []) x (h.known x (sym (truth-put_other vs c x True k) ∙ e))

    within : (i : ℕ) → i < length (lits ++ c ∷ []) → (i < length lits) ⊎ (i ≡ length lits)
    within i l = push_place i (length lits) (length (lits ++ c ∷ [])) (length-append lits (c ∷ [])) l

    old : (i : ℕ) → i < length lits → get_or (lits ++ c ∷ []) i 0 ≡ get_or lits i 0
    old i l = get_or_append_left lits (c ∷ []) 0 i l

    last : (i : ℕ) → i ≡ length lits → get_or (lits ++ c ∷ []) i 0 ≡ c
    last i e = get_or_at lits c [] 0 i (sym e)

    new : (i : ℕ) → i < length lits → get_or lits i 0 / 2 ≡ c / 2 → ⊥
    new i l = true-apart lits vs c (get_or lits i 0) h o (h.holds (get_or lits i 0) (Contains-get_or lits i 0 l))

    place : (i j : ℕ) → (i < length lits) ⊎ (i ≡ length lits) → (j < length lits) ⊎ (j ≡ length lits) → get_or (lits ++ c ∷ []) i 0 / 2 ≡ get_or (lits ++ c ∷ []) j 0 / 2 → i ≡ j
    place i j (inl a) (inl b) e = h.apart i j a b (ap (λ n. n / 2) (sym (old i a)) ∙ e ∙ ap (λ n. n / 2) (old j b))
    place i j (inl a) (inr b) e = absurd (new i a (ap (λ n. n / 2) (sym (old i a)) ∙ e ∙ ap (λ n. n / 2) (last j b)))
    place i j (inr a) (inl b) e = absurd (new j b (ap (λ n. n / 2) (sym (old j b)) ∙ sym e ∙ ap (λ n. n / 2) (last i a)))
    place i j (inr a) (inr b) e = a ∙ sym b

pub IsConsistent-pop : (lits : List ℕ) (vs : List Truth) (c : ℕ) → IsConsistent (lits ++ c ∷ []) vs → IsConsistent lits (put vs c Open)
IsConsistent-pop lits vs c h = record {
  holds = λ x m. truth-put_other vs c x Open (other x m) ∙ h.holds x (Contains-append_left lits (c ∷ []) x m);
  known = λ x e. find x e (cases_eq (x / 2) (c / 2));
  apart = λ i j li lj e. h.apart i j (longer i li) (longer j lj) (ap (λ n. n / 2) (old i li) ∙ e ∙ ap (λ n. n / 2) (sym (old j lj)));
}
  where
    lt : c < 2 * length vs
    lt = within-true vs c (h.holds c (Contains-push lits c))

    old : (i : ℕ) → i < length lits → get_or (lits ++ c ∷ []) i 0 ≡ get_or lits i 0
    old i l = get_or_append_left lits (c ∷ []) 0 i l

    longer : (i : ℕ) → i < length lits → i < length (lits ++ c ∷ [])
    longer i l = let e = length-append lits (c ∷ []) in omega arith

    end : length lits < length (lits ++ c ∷ [])
    end = let e = length-append lits (c ∷ []) in omega arith

    other : (x : ℕ) → Contains lits x → x / 2 ≢ c / 2
    other x m e =
        let here : get_or lits m.0 0 ≡ x = get_or_default lits m.0 0 x m.1 ∙ m.2 in
        let same : m.0 ≡ length lits = h.apart m.0 (length lits) (longer m.0 m.1) end (ap (λ n. n / 2) (old m.0 m.1 ∙ here) ∙ e ∙ ap (λ n. n / 2) (sym (get_or_at lits c [] 0 (length lits) refl))) in
        let less = m.1 in
        absurd (omega arith)

    find : (x : ℕ) → truth (put vs c Open) x ≡ True → (x / 2 ≡ c / 2) ⊎ (x / 2 ≡ c / 2 → ⊥) → Contains lits x
    find x e (inl k) = let o = open-half (put vs c Open) x c (truth-put vs c Open lt) k in cc
    find x e (inr k) =
        let m = h.known x (sym (truth-put_other vs c x Open k) ∙ e) in
        ⊎_elim (λ l. l) (λ s. absurd (k (ap (λ n. n / 2) (sym s)))) (Contains-push_cases lits c x m)

pub IsRising-more : (starts : List ℕ) (n m : ℕ) → n ≤ m → IsRising starts n → IsRising starts m
IsRising-more starts n m le h = record {
  within = λ j l. let a = h.within j l in omega arith;
  rises = h.rises;
}

pub IsRising-push : (starts : List ℕ) (n : ℕ) → IsRising starts n → IsRising (starts ++ n ∷ []) n
IsRising-push starts n h = record {
  within = λ j l. below j (spot j l);
  rises = λ i j lt l. let e = length-append starts (n ∷ []) in climbs i j lt (spot j l);
}
  where
    spot : (j : ℕ) → j < length (starts ++ n ∷ []) → (j < length starts) ⊎ (j ≡ length starts)
    spot j l = push_place j (length starts) (length (starts ++ n ∷ [])) (length-append starts (n ∷ [])) l

    old : (i : ℕ) → i < length starts → get_or (starts ++ n ∷ []) i 0 ≡ get_or starts i 0
    old i l = get_or_append_left starts (n ∷ []) 0 i l

    last : (i : ℕ) → i ≡ length starts → get_or (starts ++ n ∷ []) i 0 ≡ n
    last i e = get_or_at starts n [] 0 i (sym e)

    below : (j : ℕ) → (j < length starts) ⊎ (j ≡ length starts) → get_or (starts ++ n ∷ []) j 0 ≤ n
    below j (inl a) = let e = old j a in let b = h.within j a in omega arith
    below j (inr a) = let e = last j a in omega arith

    climbs : (i j : ℕ) → i < j → (j < length starts) ⊎ (j ≡ length starts) → get_or (starts ++ n ∷ []) i 0 ≤ get_or (starts ++ n ∷ []) j 0
    climbs i j lt (inl a) =
        let less : i < length starts = omega arith in
        let e = old i less in let f = old j a in let b = h.rises i j lt a in omega arith
    climbs i j lt (inr a) =
        let less : i < length starts = omega arith in
        let e = old i less in let f = last j a in let b = h.within i less in omega arith

pub IsRising-take : (starts : List ℕ) (n level : ℕ) → level < length starts → IsRising starts n → IsRising (take level starts) (get_or starts level 0)
IsRising-take starts n level lt h = record {
  within = λ j l. let less = shorter j l in let e = get_or-take level starts j 0 less in let b = h.rises j level less lt in omega arith;
  rises = λ i j k l.
      let less = shorter j l in let few : i < level = omega arith in let long : j < length starts = omega arith in
      let e = get_or-take level starts j 0 less in let f = get_or-take level starts i 0 few in let b = h.rises i j k long in omega arith;
}
  where
    shorter : (j : ℕ) → j < length (take level starts) → j < level
    shorter j l = let e = length-take level starts in omega arith

before_last : (starts : List ℕ) (n j : ℕ) → IsRising starts n → j < length starts → get_or starts j 0 ≤ get_or starts (length starts - 1) 0
before_last starts n j r lj =
    ⊎_elim
    (λ e. let k : get_or starts j 0 ≡ get_or starts (length starts - 1) 0 = ap (λ z. get_or starts z 0) e in omega arith)
    (λ e. r.rises j (length starts - 1) (omega arith) (omega arith))
    (cases_eq j (length starts - 1))

-- a literal at or behind the beginning of the last level stands below no level
pub of_last_level : (lits starts : List ℕ) (vs : List Truth) (c place : ℕ) → IsConsistent lits vs → IsRising starts (length lits) → place < length lits → get_or lits place 0 ≡ c → (0 < length starts → get_or starts (length starts - 1) 0 ≤ place) → (j : ℕ) → j < length starts → Contains (take (get_or starts j 0) lits) c → ⊥
of_last_level lits starts vs c place h r lt named after j lj m =
    let n = get_or starts j 0 in
    let size = length-take n lits in
    let q = m.0 in
    let inside : q < length (take n lits) = m.1 in
    let below : q < n = omega arith in
    let long : q < length lits = omega arith in
    let here : get_or lits q 0 ≡ c = get_or_default lits q 0 c long ∙ sym (get_or-take n lits q c below) ∙ m.2 in
    let same : q ≡ place = h.apart q place long lt (ap (λ z. z / 2) (here ∙ sym named)) in
    let some : 0 < length starts = omega arith in
    let end = after some in
    let first : n ≤ get_or starts (length starts - 1) 0 = before_last starts (length lits) j r lj in
    absurd (omega arith)
