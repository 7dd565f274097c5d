-- Where a number reaches another, some way leads there that meets each number once at most.
use Rattle.std.proofs.Common.{◌≡◌, ℕ, zero, suc, ◌+◌, ◌-◌, ◌<◌, ◌≤◌, Bool, true, false, eqb, List, [], ◌∷◌, length, ◌↔◌, IsTrue, refl, arith, sym, subst, ⊎_elim}
use Rattle.std.specs.List.{IsDistinct, AllByRecursion, list_any}
use Rattle.std.proofs.lemmas.Bool.{cases_Bool, or_cases, or_left, or_right, or_parts}
use Rattle.std.proofs.lemmas.Map.Steps.{length-le_from_distinct_below}
use Rattle.call_order.specs.Uses.{Graph, uses_at, is_among, Reaches, directly, through, leads_within, leads_to}
use Rattle.call_order.proofs.Members.{is_among-head, is_among-tail, is_among-cases, below-from_use}

-- some number passes a test
some_passes : (test : ℕ → Bool) (xs : List ℕ) → list_any test xs ≡ true → (k : ℕ) × (is_among k xs ≡ true) × (test k ≡ true)
some_passes test [] h = cc
some_passes test (x ∷ xs) h =
    ⊎_elim (λ here. (x, is_among-head x xs, here)) (λ more. let p = some_passes test xs more in (p.0, is_among-tail p.0 x xs p.1, p.2)) (or_cases _ _ h)

passes_some : (test : ℕ → Bool) (xs : List ℕ) (k : ℕ) → is_among k xs ≡ true → test k ≡ true → list_any test xs ≡ true
passes_some test [] k m h = cc
passes_some test (x ∷ xs) k m h =
    ⊎_elim (λ (e : k ≡ x). or_left _ _ (subst (λ (n : ℕ). test n ≡ true) e h)) (λ more. or_right _ _ (passes_some test xs k more h)) (is_among-cases k x xs m)

-- what leads somewhere reaches it
lead_reaches : (g : Graph) (n a b : ℕ) → leads_within g n a b ≡ true → Reaches g a b
unfolding leads_within
lead_reaches g zero a b h = directly a b h
lead_reaches g (suc n) a b h =
    ⊎_elim (λ u. directly a b u)
    (λ more. let p = some_passes (λ c. leads_within g n c b) (uses_at g a) more in through a p.0 b p.1 (lead_reaches g n p.0 b p.2))
    (or_cases _ _ h)

-- with more uses as well
lead_more : (g : Graph) (n a b : ℕ) → leads_within g n a b ≡ true → leads_within g (suc n) a b ≡ true
unfolding leads_within
lead_more g zero a b h = or_left _ _ h
lead_more g (suc n) a b h =
    ⊎_elim (λ u. or_left _ _ u)
    (λ more. let p = some_passes (λ c. leads_within g n c b) (uses_at g a) more in
    or_right _ _ (passes_some (λ c. leads_within g (suc n) c b) (uses_at g a) p.0 p.1 (lead_more g n p.0 b p.2)))
    (or_cases _ _ h)

lead_by : (g : Graph) (more n a b : ℕ) → leads_within g n a b ≡ true → leads_within g (n + more) a b ≡ true
lead_by g zero n a b h = let e : n + zero ≡ n = omega arith in subst (λ (k : ℕ). leads_within g k a b ≡ true) (sym e) h
lead_by g (suc more) n a b h =
    let e : n + suc more ≡ suc (n + more) = omega arith in
    subst (λ (k : ℕ). leads_within g k a b ≡ true) (sym e) (lead_more g (n + more) a b (lead_by g more n a b h))

-- a way from one number to another, by the numbers between them
abbrev Way : Graph → ℕ → List ℕ → ℕ → Type 0
Way g a [] b = is_among b (uses_at g a) ≡ true
Way g a (c ∷ cs) b = (is_among c (uses_at g a) ≡ true) × Way g c cs b

way_leads : (g : Graph) (a : ℕ) (cs : List ℕ) (b : ℕ) → Way g a cs b → leads_within g (length cs) a b ≡ true
unfolding leads_within
way_leads g a [] b w = w
way_leads g a (c ∷ cs) b w = or_right _ _ (passes_some (λ x. leads_within g (length cs) x b) (uses_at g a) c w.0 (way_leads g c cs b w.1))

way_below : (g : Graph) (a : ℕ) (cs : List ℕ) (b : ℕ) → Way g a cs b → (q : ℕ) → is_among q (a ∷ cs) ≡ true → q < length g
way_below g a [] b w q m = ⊎_elim (λ (e : q ≡ a). subst (λ (n : ℕ). n < length g) (sym e) (below-from_use g a b w)) (λ none. cc) (is_among-cases q a [] m)
way_below g a (c ∷ cs) b w q m = ⊎_elim (λ (e : q ≡ a). subst (λ (n : ℕ). n < length g) (sym e) (below-from_use g a c w.0)) (λ more. way_below g c cs b w.1 q more) (is_among-cases q a (c ∷ cs) m)

-- no number stands twice
abbrev Apart : List ℕ → Type 0
Apart [] = Unit {0}
Apart (x ∷ xs) = (is_among x xs ≡ false) × Apart xs

others : (x : ℕ) (xs : List ℕ) → is_among x xs ≡ false → AllByRecursion (λ y. eqb x y ≡ false) xs
others x [] h = tt
others x (y ∷ ys) h = let p = or_parts _ _ h in (p.0, others x ys p.1)

distinct : (xs : List ℕ) → Apart xs → IsDistinct eqb xs
unfolding IsDistinct
distinct [] a = tt
distinct (x ∷ xs) a = (others x xs a.0, distinct xs a.1)

-- a way that meets each number once at most
record Simple (g : Graph) (a b : ℕ) : Type 0 where
  between : List ℕ
  way : Way g a between b
  once : Apart (a ∷ between)

-- the rest of a way behind a number that it meets
rest_of : (g : Graph) (c a b : ℕ) (way : List ℕ) → Way g c way b → Apart way → is_among a way ≡ true → Simple g a b
rest_of g c a b [] w once m = absurd (let e : ⊥ = cc in e)
rest_of g c a b (x ∷ xs) w once m =
    ⊎_elim (λ (e : a ≡ x). record { between = xs; way = subst (λ (n : ℕ). Way g n xs b) (sym e) w.1; once = (subst (λ (n : ℕ). is_among n xs ≡ false) (sym e) once.0, once.1) })
    (λ more. rest_of g x a b xs w.1 once.1 more)
    (is_among-cases a x xs m)

simple : (g : Graph) (a b : ℕ) → Reaches g a b → Simple g a b
simple g a b (directly _ _ u) = record { between = []; way = u; once = (refl, tt) }
simple g a b (through _ c _ u r) =
    let s = simple g c b r in
    ⊎_elim (λ met. rest_of g a a b (c ∷ s.between) (u, s.way) s.once met)
    (λ new. record { between = c ∷ s.between; way = (u, s.way); once = (new, s.once) })
    (cases_Bool (is_among a (c ∷ s.between)))

-- one number is so much more than another
pub more_by : (n m : ℕ) → n ≤ m → (more : ℕ) × (n + more ≡ m)
more_by n m h = (m - n, omega arith)

reach_leads : (g : Graph) (a b : ℕ) → Reaches g a b → leads_to g a b ≡ true
unfolding leads_to
reach_leads g a b r =
    let s = simple g a b r in
    let short : length (a ∷ s.between) ≤ length g = length-le_from_distinct_below (a ∷ s.between) (length g) (distinct (a ∷ s.between) s.once) (way_below g a s.between b s.way) in
    let more = more_by (length s.between) (length g) (omega arith) in
    subst (λ (n : ℕ). leads_within g n a b ≡ true) more.1 (lead_by g more.0 (length s.between) a b (way_leads g a s.between b s.way))

pub leads_reaches : (g : Graph) (a b : ℕ) → IsTrue (leads_to g a b) ↔ Reaches g a b
unfolding leads_to
leads_reaches g a b = (lead_reaches g (length g) a b, reach_leads g a b)
