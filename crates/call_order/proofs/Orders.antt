-- What the order takes, and when it ends.
use Rattle.std.proofs.Common.{◌≡◌, ℕ, zero, suc, ◌+◌, ◌<◌, ◌≤◌, true, false, eqb, List, [], ◌∷◌, ◌++◌, length, Option, Some, None, refl, arith, ◌∙◌, sym, ap, subst, ◌⊎◌, inl, inr, ⊎_elim}
use Rattle.std.specs.List.{IsDistinct}
use Rattle.std.proofs.lemmas.Bool.{cases_Bool, and_parts, not-true, both_ways}
use Rattle.std.proofs.lemmas.List.{append_assoc, append-nil, length_push}
use Rattle.std.proofs.lemmas.Map.Keys.{IsDistinct-push}
use Rattle.std.specs.Cmp.{nat_eq_equiv}
use Rattle.std.proofs.lemmas.Map.Steps.{length-le_from_distinct_below}
use Rattle.call_order.specs.Uses.{Graph, uses_at, is_among, Reaches, directly, through, is_ready, first_ready, ordered, order_of}
use Rattle.call_order.proofs.Firsts.{first_from-passes}
use Rattle.call_order.proofs.Members.{is_among-left, is_among-cases, is_among-either, is_among-parts, list_all-at, below-from_use}

-- behind some numbers, each of a list may be taken in turn
abbrev pub AllReady : Graph → List ℕ → List ℕ → Type 0
AllReady g before [] = Unit {0}
AllReady g before (k ∷ ks) = (k < length g) × (is_ready g before k ≡ true) × AllReady g (before ++ k ∷ []) ks

pub ready_at : (g : Graph) (before xs behind : List ℕ) (k : ℕ) → AllReady g before (xs ++ k ∷ behind) → (k < length g) × (is_ready g (before ++ xs) k ≡ true)
ready_at g before [] behind k all = (all.0, subst (λ (ys : List ℕ). is_ready g ys k ≡ true) (sym (append-nil before)) all.1)
ready_at g before (x ∷ xs) behind k all =
    let r = ready_at g (before ++ x ∷ []) xs behind k all.2 in
    (r.0, subst (λ (ys : List ℕ). is_ready g ys k ≡ true) (append_assoc before (x ∷ []) xs) r.1)

one_more : (g : Graph) (before xs : List ℕ) (k : ℕ) → AllReady g before xs → k < length g → is_ready g (before ++ xs) k ≡ true → AllReady g before (xs ++ k ∷ [])
one_more g before [] k all below ready = (below, subst (λ (ys : List ℕ). is_ready g ys k ≡ true) (append-nil before) ready, tt)
one_more g before (x ∷ xs) k all below ready =
    (all.0, all.1, one_more g (before ++ x ∷ []) xs k all.2 below (subst (λ (ys : List ℕ). is_ready g ys k ≡ true) (sym (append_assoc before (x ∷ []) xs)) ready))

-- one step of the order
pub ordered-none : (g : Graph) (count : ℕ) (taken : List ℕ) → first_ready g taken ≡ None → ordered g count taken ≡ taken
unfolding ordered
ordered-none g zero taken e = refl
ordered-none g (suc count) taken e = rw (ordered, e) refl

pub ordered-some : (g : Graph) (count : ℕ) (taken : List ℕ) (k : ℕ) → first_ready g taken ≡ Some k → ordered g (suc count) taken ≡ ordered g count (taken ++ k ∷ [])
unfolding ordered
ordered-some g count taken k e = rw (ordered, e) refl

pub ordered-zero : (g : Graph) (taken : List ℕ) → ordered g zero taken ≡ taken
unfolding ordered
ordered-zero g taken = refl

pub option_cases : (o : Option ℕ) → (o ≡ None) ⊎ ((k : ℕ) × (o ≡ Some k))
option_cases None = inl refl
option_cases (Some k) = inr (k, refl)

all_ready-ordered : (g : Graph) (count : ℕ) (taken : List ℕ) → AllReady g [] taken → AllReady g [] (ordered g count taken)
all_ready-ordered g zero taken all = subst (λ (ks : List ℕ). AllReady g [] ks) (sym (ordered-zero g taken)) all
all_ready-ordered g (suc count) taken all =
    ⊎_elim (λ none. subst (λ (ks : List ℕ). AllReady g [] ks) (sym (ordered-none g (suc count) taken none)) all)
    (λ some. let found = first_from-passes (is_ready g taken) 0 (length g) some.0 some.1 in
    let below : some.0 < length g = omega arith in
    let more = all_ready-ordered g count (taken ++ some.0 ∷ []) (one_more g [] taken some.0 all below found.0) in
    subst (λ (ks : List ℕ). AllReady g [] ks) (sym (ordered-some g count taken some.0 some.1)) more)
    (option_cases (first_ready g taken))

-- the order is as long as asked, or no further number may be taken
ordered-ends : (g : Graph) (count : ℕ) (taken : List ℕ) → (length (ordered g count taken) ≡ length taken + count) ⊎ (first_ready g (ordered g count taken) ≡ None)
ordered-ends g zero taken = inl (ap length (ordered-zero g taken) ∙ omega arith)
ordered-ends g (suc count) taken =
    ⊎_elim (λ none. inr (ap (first_ready g) (ordered-none g (suc count) taken none) ∙ none))
    (λ some. let e = ordered-some g count taken some.0 some.1 in
    ⊎_elim (λ (l : length (ordered g count (taken ++ some.0 ∷ [])) ≡ length (taken ++ some.0 ∷ []) + count).
    let p = length_push taken some.0 in inl (ap length e ∙ omega arith))
    (λ n. inr (ap (first_ready g) e ∙ n))
    (ordered-ends g count (taken ++ some.0 ∷ [])))
    (option_cases (first_ready g taken))

pub all_ready-order_of : (g : Graph) → AllReady g [] (order_of g)
unfolding order_of
all_ready-order_of g = all_ready-ordered g (length g) [] tt

pub order_of-ends : (g : Graph) → length (order_of g) < length g → first_ready g (order_of g) ≡ None
unfolding order_of
order_of-ends g short = ⊎_elim (λ l. absurd (omega arith)) (λ n. n) (ordered-ends g (length g) [])

ready-apart : (g : Graph) (taken : List ℕ) (k : ℕ) → is_ready g taken k ≡ true → is_among k taken ≡ false
ready-apart g taken k h = not-true _ ((and_parts _ _ h).0)

ready-uses : (g : Graph) (taken : List ℕ) (k used : ℕ) → is_ready g taken k ≡ true → is_among used (uses_at g k) ≡ true → is_among used taken ≡ true
ready-uses g taken k used h u = list_all-at (λ n. is_among n taken) (uses_at g k) used ((and_parts _ _ h).1) u

all_below : (g : Graph) (before xs : List ℕ) (k : ℕ) → AllReady g before xs → is_among k xs ≡ true → k < length g
all_below g before [] k all m = cc
all_below g before (x ∷ xs) k all m =
    ⊎_elim (λ (e : k ≡ x). let below = all.0 in omega arith) (λ r. all_below g (before ++ x ∷ []) xs k all.2 r) (is_among-cases k x xs m)

all_distinct : (g : Graph) (before xs : List ℕ) → AllReady g before xs → IsDistinct eqb before → IsDistinct eqb (before ++ xs)
all_distinct g before [] all d = subst (λ (ks : List ℕ). IsDistinct eqb ks) (sym (append-nil before)) d
all_distinct g before (x ∷ xs) all d =
    let more = IsDistinct-push nat_eq_equiv before x d (ready-apart g before x all.1) in
    subst (λ (ks : List ℕ). IsDistinct eqb ks) (append_assoc before (x ∷ []) xs) (all_distinct g (before ++ x ∷ []) xs all.2 more)

pub below_length : (g : Graph) (k : ℕ) → is_among k (order_of g) ≡ true → k < length g
below_length g k m = all_below g [] (order_of g) k (all_ready-order_of g) m

pub order_of-distinct : (g : Graph) → IsDistinct eqb (order_of g)
unfolding IsDistinct
order_of-distinct g = all_distinct g [] (order_of g) (all_ready-order_of g) tt

ready_in : (g : Graph) (before behind : List ℕ) (k : ℕ) → order_of g ≡ before ++ k ∷ behind → is_ready g before k ≡ true
ready_in g before behind k e = (ready_at g [] before behind k (subst (λ (ks : List ℕ). AllReady g [] ks) e (all_ready-order_of g))).1

pub behind_uses : (g : Graph) (before behind : List ℕ) (k used : ℕ) → order_of g ≡ before ++ k ∷ behind → is_among used (uses_at g k) ≡ true → is_among used before ≡ true
behind_uses g before behind k used e u = ready-uses g before k used (ready_in g before behind k e) u

pub only_once : (g : Graph) (before behind : List ℕ) (k : ℕ) → order_of g ≡ before ++ k ∷ behind → is_among k before ≡ false
only_once g before behind k e = ready-apart g before k (ready_in g before behind k e)

-- an order with each number
pub each_in : (g : Graph) → length (order_of g) ≡ length g → (k : ℕ) → k < length g → is_among k (order_of g) ≡ true
each_in g whole k below =
    ⊎_elim (λ there. there)
    (λ gone. let d = IsDistinct-push nat_eq_equiv (order_of g) k (order_of-distinct g) gone in
    let all : (q : ℕ) → is_among q (order_of g ++ k ∷ []) ≡ true → q < length g =
    λ (q : ℕ) m. ⊎_elim (λ r. below_length g q r) (λ one. ⊎_elim (λ (e : q ≡ k). let b : k < length g = below in omega arith) (λ none. cc) (is_among-cases q k [] one))
    (is_among-either q (order_of g) (k ∷ []) m) in
    let l : length (order_of g ++ k ∷ []) ≤ length g = length-le_from_distinct_below (order_of g ++ k ∷ []) (length g) d all in
    let p = length_push (order_of g) k in
    absurd (omega arith))
    (cases_Bool (is_among k (order_of g)))

-- what a number reaches stands before it
reached_before : (g : Graph) (a b : ℕ) → Reaches g a b → (before behind : List ℕ) → order_of g ≡ before ++ a ∷ behind → is_among b before ≡ true
reached_before g a b (directly _ _ u) before behind e = behind_uses g before behind a b e u
reached_before g a b (through _ c _ u r) before behind e =
    let p = is_among-parts c before (behind_uses g before behind a c e u) in
    let there : order_of g ≡ p.0 ++ c ∷ (p.1 ++ a ∷ behind) = e ∙ ap (λ (xs : List ℕ). xs ++ a ∷ behind) p.2 ∙ append_assoc p.0 (c ∷ p.1) (a ∷ behind) in
    let m = reached_before g c b r p.0 (p.1 ++ a ∷ behind) there in
    subst (λ (xs : List ℕ). is_among b xs ≡ true) (sym p.2) (is_among-left b p.0 (c ∷ p.1) m)

-- what reaches something is below the length
pub begins : (g : Graph) (a b : ℕ) → Reaches g a b → a < length g
begins g a b (directly _ _ u) = below-from_use g a b u
begins g a b (through _ c _ u r) = below-from_use g a c u

pub none_reaches : (g : Graph) → length (order_of g) ≡ length g → (k : ℕ) → ¬ Reaches g k k
none_reaches g whole k r =
    let p = is_among-parts k (order_of g) (each_in g whole k (begins g k k r)) in
    both_ways _ (only_once g p.0 p.1 k p.2) (reached_before g k k r p.0 p.1 p.2)
