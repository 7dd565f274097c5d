-- Uses that pass a test.
use Rattle.std.proofs.Common.{◌≡◌, ℕ, ◌+◌, ◌<◌, ◌≤◌, Bool, true, false, ◌&&◌, List, [], ◌∷◌, ◌++◌, length, refl, arith, ◌↔◌, ◌∙◌, sym, ap, subst, ⊎_elim, Vec, Global}
use Rattle.std.specs.List.{filter}
use Rattle.std.proofs.Math.Seq.{get_or-append_seam}
use Rattle.std.proofs.lemmas.Bool.{cases_Bool, cases_lt, cases_eq, and_parts, and_from, both_ways}
use Rattle.std.proofs.lemmas.List.{get_or_past, get_or_append_left, map-append, length-append}
use Rattle.call_order.specs.Uses.{Graph, graph_of, uses_at, is_among, Reaches, directly, through, leads_to, HasCircles}
use Rattle.call_order.specs.Parts.{AreFiltered}
use Rattle.call_order.proofs.Counts.{same_test}
use Rattle.call_order.proofs.Members.{is_among-head, is_among-tail, is_among-cases}
use Rattle.call_order.proofs.Ways.{leads_reaches}

-- what is among those that pass
passing : (test : ℕ → Bool) (k : ℕ) (xs : List ℕ) → is_among k (filter test xs) ≡ true → (is_among k xs && test k) ≡ true
passing test k [] h = h
passing test k (x ∷ xs) h =
    ⊎_elim (λ (yes : test x ≡ true). let i = rw yes at h in
    ⊎_elim (λ (e : k ≡ x). and_from _ _ (subst (λ (n : ℕ). is_among k (n ∷ xs) ≡ true) e (is_among-head k xs)) (subst (λ (n : ℕ). test n ≡ true) (sym e) yes))
    (λ more. let p = and_parts _ _ (passing test k xs more) in and_from _ _ (is_among-tail k x xs p.0) p.1)
    (is_among-cases k x (filter test xs) i))
    (λ (no : test x ≡ false). let i = rw no at h in let p = and_parts _ _ (passing test k xs i) in and_from _ _ (is_among-tail k x xs p.0) p.1)
    (cases_Bool (test x))

passed : (test : ℕ → Bool) (k : ℕ) (xs : List ℕ) → is_among k xs ≡ true → test k ≡ true → is_among k (filter test xs) ≡ true
passed test k [] m t = m
passed test k (x ∷ xs) m t =
    ⊎_elim (λ (yes : test x ≡ true). rw yes (⊎_elim
    (λ (e : k ≡ x). subst (λ (n : ℕ). is_among k (n ∷ filter test xs) ≡ true) e (is_among-head k (filter test xs)))
    (λ more. is_among-tail k x (filter test xs) (passed test k xs more t))
    (is_among-cases k x xs m)))
    (λ (no : test x ≡ false). rw no (⊎_elim
    (λ (e : k ≡ x). absurd (both_ways (test x) no (subst (λ (n : ℕ). test n ≡ true) e t)))
    (λ more. passed test k xs more t)
    (is_among-cases k x xs m)))
    (cases_Bool (test x))

pub is_among-filter : (test : ℕ → Bool) (k : ℕ) (xs : List ℕ) → is_among k (filter test xs) ≡ (is_among k xs && test k)
is_among-filter test k xs = same_test _ _ (passing test k xs) (λ h. let p = and_parts (is_among k xs) (test k) h in passed test k xs p.0 p.1)

-- the uses of numbers below a count that pass a test
pub record AreFilteredBelow (g : Graph) (test : ℕ → ℕ → Bool) (count : ℕ) (kept : Graph) : Type 0 where
  pub size : length kept ≡ count
  pub uses : (k used : ℕ) → k < count → is_among used (uses_at kept k) ≡ (is_among used (uses_at g k) && test k used)

pub filtered_more : (g : Graph) (test : ℕ → ℕ → Bool) (count : ℕ) (kept : Graph) (numbers : List ℕ) → AreFilteredBelow g test count kept → numbers ≡ filter (test count) (uses_at g count) → AreFilteredBelow g test (count + 1) (kept ++ numbers ∷ [])
filtered_more g test count kept numbers before is = record {
  size = let s = before.size in let l = length-append kept (numbers ∷ []) in omega arith;
  uses = λ k used below.
      let s = before.size in
      ⊎_elim (λ (e : k ≡ count).
      let here : uses_at (kept ++ numbers ∷ []) k ≡ numbers = subst (λ (n : ℕ). uses_at (kept ++ numbers ∷ []) n ≡ numbers) (s ∙ sym e) (get_or-append_seam kept numbers [] []) in
      ap (is_among used) (here ∙ is) ∙ is_among-filter (test count) used (uses_at g count) ∙ ap (λ (n : ℕ). is_among used (uses_at g n) && test n used) (sym e))
      (λ other. ap (is_among used) (get_or_append_left kept (numbers ∷ []) [] k (omega arith)) ∙ before.uses k used (omega arith))
      (cases_eq k count);
}

pub filtered_all : (g : Graph) (test : ℕ → ℕ → Bool) (count : ℕ) (kept : Graph) → AreFilteredBelow g test count kept → count ≡ length g → AreFiltered g test kept
filtered_all g test count kept below all = record {
  size = below.size ∙ all;
  uses = λ k used.
      ⊎_elim (λ (less : k < count). below.uses k used less)
      (λ (past : count ≤ k). let s = below.size in
      ap (is_among used) (get_or_past kept k [] (omega arith)) ∙ ap (λ (xs : List ℕ). is_among used xs && test k used) (sym (get_or_past g k [] (omega arith))))
      (cases_lt k count);
}

-- one vector more
pub graph-push : (vs : List (Vec ℕ Global)) (v : Vec ℕ Global) → graph_of (vs ++ v ∷ []) ≡ graph_of vs ++ v.items ∷ []
graph-push vs v = map-append (λ (x : Vec ℕ Global). x.items) vs (v ∷ [])

-- those that lead back
pub filtered_circles : (g kept : Graph) → AreFiltered g (λ user used. leads_to g used user) kept → HasCircles g kept
filtered_circles g kept f = f.uses

-- a number stands in a circle where some use of it leads back
some_back : (g circles : Graph) → HasCircles g circles → (k : ℕ) (numbers : List ℕ) → uses_at circles k ≡ numbers → Reaches g k k → length numbers ≡ 0 → ⊥
some_back g circles has k [] is (directly _ _ u) none =
    let h : is_among k (uses_at circles k) ≡ true = has k k ∙ and_from _ _ u ((leads_reaches g k k).1 (directly k k u)) in
    let e = ap (is_among k) is in cc
some_back g circles has k [] is (through _ c _ u r) none =
    let h : is_among c (uses_at circles k) ≡ true = has k c ∙ and_from _ _ u ((leads_reaches g c k).1 r) in
    let e = ap (is_among c) is in cc
some_back g circles has k (x ∷ xs) is r none = omega arith

back_here : (g circles : Graph) → HasCircles g circles → (k : ℕ) (numbers : List ℕ) → uses_at circles k ≡ numbers → (length numbers ≡ 0 → ⊥) → Reaches g k k
back_here g circles has k [] is some = absurd (some refl)
back_here g circles has k (x ∷ xs) is some =
    let h : is_among x (uses_at circles k) ≡ true = ap (is_among x) is ∙ is_among-head x xs in
    let p = and_parts (is_among x (uses_at g k)) (leads_to g x k) (sym (has k x) ∙ h) in
    through k x k p.0 ((leads_reaches g x k).0 p.1)

pub stands : (g circles : Graph) (k : ℕ) (b : Bool) → HasCircles g circles → (b ≡ true → length (uses_at circles k) ≡ 0 → ⊥) → (b ≡ false → length (uses_at circles k) ≡ 0) → (b ≡ true) ↔ Reaches g k k
stands g circles k b has some none = (λ h. back_here g circles has k (uses_at circles k) refl (some h), λ r. ⊎_elim (λ t. t) (λ f. absurd (some_back g circles has k (uses_at circles k) refl r (none f))) (cases_Bool b))
