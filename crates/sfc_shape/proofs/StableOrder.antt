-- A list in order whose ties stand as in another is that one, with each element placed among those behind it.
use Rattle.std.proofs.Common.{◌≡◌, ◌<◌, ◌≤◌, ℕ, suc, List, [], ◌∷◌, length, get_or, filter, Bool, true, false, not, ◌&&◌, cond, if◌then◌else◌, refl, sym, ap, ◌∙◌, subst, arith}
use Rattle.std.specs.Prelude.{⊤}
use Rattle.std.specs.Cmp.{IsStrictWeakOrder}
use Rattle.std.specs.List.{AllByRecursion}
use Rattle.std.specs.List.Sorted.{ties, IsSortedBy, IsStableBy}
use Rattle.std.proofs.lemmas.List.Sorted.{sorted_far}

module _ {X : Type 0} (lt : X → X → Bool) where
  abbrev pub place : X → List X → List X
  place x [] = x ∷ []
  place x (y ∷ ys) = if lt y x then y ∷ place x ys else x ∷ y ∷ ys

  abbrev pub order : List X → List X
  order [] = []
  order (x ∷ xs) = place x (order xs)

  abbrev NoneBelow : X → List X → Type 0
  NoneBelow x ys = AllByRecursion (λ y. lt y x ≡ false) ys

  abbrev InOrder : List X → Type 0
  InOrder [] = ⊤
  InOrder (x ∷ xs) = NoneBelow x xs × InOrder xs

  filtered : (p : X → Bool) (x : X) (xs : List X) → p x ≡ true → filter p (x ∷ xs) ≡ x ∷ filter p xs
  filtered p x xs h = ap (λ b. cond b (x ∷ filter p xs) (filter p xs)) h

  found : (x : X) (p : X → Bool) (z : X) (ys rest : List X) → NoneBelow x ys → filter p ys ≡ z ∷ rest → lt z x ≡ false
  found x p z [] rest none h = absurd (let e : ⊥ = cc in e)
  found x p z (y ∷ ys) rest none h = by (p y) h (found x p z ys rest none.1)
    where
      by : (b : Bool) → cond b (y ∷ filter p ys) (filter p ys) ≡ z ∷ rest → (filter p ys ≡ z ∷ rest → lt z x ≡ false) → lt z x ≡ false
      by true e others = let same : y ≡ z = cc in subst (λ w. lt w x ≡ false) same none.0
      by false e others = others e

  filtered_behind : (b : Bool) (y : X) (ys zs : List X) → cond b (y ∷ ys) ys ≡ cond b (y ∷ zs) zs → ys ≡ zs
  filtered_behind true y ys zs e = cc
  filtered_behind false y ys zs e = e

  same_behind : (p : X → Bool) (y z : X) (ys zs : List X) → y ≡ z → filter p (y ∷ ys) ≡ filter p (z ∷ zs) → filter p ys ≡ filter p zs
  same_behind p y z ys zs same h = filtered_behind (p y) y (filter p ys) (filter p zs) (h ∙ ap (λ w. cond (p w) (w ∷ filter p zs) (filter p zs)) (sym same))

  module _ (o : IsStrictWeakOrder lt) where
    itself : (x : X) → lt x x ≡ false
    itself x = by (lt x x) refl
      where
        by : (b : Bool) → lt x x ≡ b → lt x x ≡ false
        by true e = o.one_way x x e
        by false e = e

    tied : (x y : X) → lt x y ≡ false → lt y x ≡ false → ties lt x y ≡ true
    tied x y e f = rw (e, f) refl

    heads : (y z : X) (ys zs : List X) → NoneBelow y ys → NoneBelow z zs → ((x : X) → filter (ties lt x) (y ∷ ys) ≡ filter (ties lt x) (z ∷ zs)) → y ≡ z
    heads y z ys zs a b h =
        let at_y = filtered (ties lt y) y ys (tied y y (itself y) (itself y)) in
        let at_z = filtered (ties lt z) z zs (tied z z (itself z) (itself z)) in
        let behind : lt z y ≡ false = found y (ties lt z) z (y ∷ ys) (filter (ties lt z) zs) (itself y, a) (h z ∙ at_z) in
        let before : lt y z ≡ false = found z (ties lt y) y (z ∷ zs) (filter (ties lt y) ys) (itself z, b) (sym (h y) ∙ at_y) in
        let both : y ∷ filter (ties lt y) ys ≡ z ∷ filter (ties lt y) zs = sym at_y ∙ h y ∙ filtered (ties lt y) z zs (tied y z before behind) in
        cc

    same : (ys zs : List X) → InOrder ys → InOrder zs → ((x : X) → filter (ties lt x) ys ≡ filter (ties lt x) zs) → ys ≡ zs
    same [] [] a b h = refl
    same [] (z ∷ zs) a b h = let e : [] ≡ z ∷ filter (ties lt z) zs = h z ∙ filtered (ties lt z) z zs (tied z z (itself z) (itself z)) in absurd (let n : ⊥ = cc in n)
    same (y ∷ ys) [] a b h = let e : [] ≡ y ∷ filter (ties lt y) ys = sym (h y) ∙ filtered (ties lt y) y ys (tied y y (itself y) (itself y)) in absurd (let n : ⊥ = cc in n)
    same (y ∷ ys) (z ∷ zs) a b h =
        let first : y ≡ z = heads y z ys zs a.0 b.0 h in
        ap (λ w. w ∷ ys) first ∙ ap (λ rest. z ∷ rest) (same ys zs a.1 b.1 (λ x. same_behind (ties lt x) y z ys zs first (h x)))

    none-place : (w x : X) (us : List X) → lt x w ≡ false → NoneBelow w us → NoneBelow w (place x us)
    none-place w x [] e none = (e, none)
    none-place w x (u ∷ us) e none = by (lt u x) (none-place w x us e none.1)
      where
        by : (b : Bool) → NoneBelow w (place x us) → NoneBelow w (if b then u ∷ place x us else x ∷ u ∷ us)
        by true rest = (none.0, rest)
        by false rest = (e, none)

    none-below : (x u : X) (us : List X) → lt u x ≡ false → NoneBelow u us → NoneBelow x us
    none-below x u [] e none = none
    none-below x u (v ∷ us) e none = (o.chain v u x none.0 e, none-below x u us e none.1)

    in-order-place : (x : X) (us : List X) → InOrder us → InOrder (place x us)
    in-order-place x [] a = (a, a)
    in-order-place x (u ∷ us) a = by (lt u x) refl (in-order-place x us a.1)
      where
        by : (b : Bool) → lt u x ≡ b → InOrder (place x us) → InOrder (if b then u ∷ place x us else x ∷ u ∷ us)
        by true e rest = (none-place u x us (o.one_way u x e) a.0, rest)
        by false e rest = ((e, none-below x u us e a.0), a)

    in-order : (xs : List X) → InOrder (order xs)
    in-order [] = search
    in-order (x ∷ xs) = in-order-place x (order xs) (in-order xs)

    -- two that tie with a third are not one before the other
    apart : (w x u : X) → ties lt w x ≡ true → ties lt w u ≡ true → lt u x ≡ false
    apart w x u e f = o.chain u w x (second (lt w u) (lt u w) f) (first (lt w x) (lt x w) e)
      where
        first : (a b : Bool) → (not a && not b) ≡ true → a ≡ false
        first true b h = absurd (let n : ⊥ = cc in n)
        first false b h = refl

        second : (a b : Bool) → (not a && not b) ≡ true → b ≡ false
        second a false h = refl
        second true true h = absurd (let n : ⊥ = cc in n)
        second false true h = absurd (let n : ⊥ = cc in n)

    swapped : (b c : Bool) (x u : X) (us : List X) → (b ≡ true → c ≡ true → false ≡ true)
        → cond c (u ∷ cond b (x ∷ us) us) (cond b (x ∷ us) us) ≡ cond b (x ∷ cond c (u ∷ us) us) (cond c (u ∷ us) us)
    swapped true true x u us h = absurd (let e : false ≡ true = h refl refl in let n : ⊥ = cc in n)
    swapped true false x u us h = refl
    swapped false true x u us h = refl
    swapped false false x u us h = refl

    ties-place : (w x : X) (us : List X) → filter (ties lt w) (place x us) ≡ filter (ties lt w) (x ∷ us)
    ties-place w x [] = refl
    ties-place w x (u ∷ us) = by (lt u x) refl (ties-place w x us)
      where
        p : X → Bool
        p = ties lt w

        by : (b : Bool) → lt u x ≡ b → filter p (place x us) ≡ filter p (x ∷ us) → filter p (if b then u ∷ place x us else x ∷ u ∷ us) ≡ filter p (x ∷ u ∷ us)
        by true e rest =
            ap (λ l. cond (p u) (u ∷ l) l) rest
            ∙ swapped (p x) (p u) x u (filter p us) (λ at_x at_u. sym (apart w x u at_x at_u) ∙ e)
        by false e rest = refl

    ties-order : (w : X) (xs : List X) → filter (ties lt w) (order xs) ≡ filter (ties lt w) xs
    ties-order w [] = refl
    ties-order w (x ∷ xs) = ties-place w x (order xs) ∙ ap (λ l. cond (ties lt w x) (x ∷ l) l) (ties-order w xs)

    none-far : (x : X) (xs : List X) → ((k : ℕ) (d : X) → k < length xs → lt (get_or xs k d) x ≡ false) → NoneBelow x xs
    none-far x [] h = search
    none-far x (y ∷ ys) h = (h 0 y (omega arith), none-far x ys (λ k d below. h (suc k) d (omega (arith, below))))

    in-order-far : (xs : List X) → ((i j : ℕ) (d : X) → i ≤ j → j < length xs → lt (get_or xs j d) (get_or xs i d) ≡ false) → InOrder xs
    in-order-far [] h = search
    in-order-far (x ∷ xs) h =
        (none-far x xs (λ k d below. h 0 (suc k) d (omega arith) (omega (arith, below))), in-order-far xs (λ i j d up below. h (suc i) (suc j) d (omega (arith, up)) (omega (arith, below))))

    pub stable_is_order : (xs ys : List X) → IsSortedBy lt ys → IsStableBy lt xs ys → ys ≡ order xs
    stable_is_order xs ys sorted stable = same ys (order xs) (in-order-far ys (sorted_far lt o ys sorted)) (in-order xs) (λ w. stable w ∙ sym (ties-order w xs))
