-- Parts in each of which all numbers lead to one another have the uses that lead back to their user.
use Rattle.std.proofs.Common.{◌≡◌, ℕ, ◌<◌, ◌≤◌, true, List, length, slice_index, refl, arith, ◌∙◌, sym, ap, subst, ◌⊎◌, inl, inr}
use Rattle.std.proofs.lemmas.Bool.{eq-eqb, eqb-true, and_parts, and_from}
use Rattle.call_order.specs.Uses.{Graph, uses_at, is_among, Reaches, directly, through, is_in_circle, HasCircles}
use Rattle.call_order.specs.Users.{HasUsers}
use Rattle.call_order.specs.Parts.{NeverFalls, AreFiltered, is_inside, AreHeads, ReachesAll}
use Rattle.call_order.proofs.Circles.{reaches-step}
use Rattle.call_order.proofs.Counts.{same_test, times-some, among-from_times}
use Rattle.call_order.proofs.Members.{below-from_use}
use Rattle.call_order.proofs.Ways.{leads_reaches}

module _ (g inside : Graph) (parts heads : List ℕ) (kept : AreFiltered g (is_inside parts) inside) where
  -- a use inside a part
  inner : (k used : ℕ) → is_among used (uses_at inside k) ≡ true → (is_among used (uses_at g k) ≡ true) × (slice_index parts used ≡ slice_index parts k)
  inner k used m = let p = and_parts _ _ (sym (kept.uses k used) ∙ m) in (p.0, eqb-true (slice_index parts used) (slice_index parts k) p.1)

  -- what is reached inside is in the same part, and is reached at all
  level : (a b : ℕ) → Reaches inside a b → slice_index parts b ≡ slice_index parts a
  level a b (directly _ _ u) = (inner a b u).1
  level a b (through _ c _ u r) = level c b r ∙ (inner a c u).1

  outward : (a b : ℕ) → Reaches inside a b → Reaches g a b
  outward a b (directly _ _ u) = directly a b (inner a b u).0
  outward a b (through _ c _ u r) = through a c b (inner a c u).0 (outward c b r)

  -- no way leads to a part before that where it begins
  rises : NeverFalls g parts → (a b : ℕ) → Reaches g a b → slice_index parts a ≤ slice_index parts b
  rises rise a b (directly _ _ u) = (rise a b u).1
  rises rise a b (through _ c _ u r) = let h = (rise a c u).1 in let k = rises rise c b r in omega arith

  module _ (users : Graph) (sized : length users ≡ length inside) (has : HasUsers inside users) where
    used_by : (k user : ℕ) → is_among user (uses_at users k) ≡ true → is_among k (uses_at inside user) ≡ true
    used_by k user m =
        let below = below-from_use users k user m in
        let e = has k user (omega arith) in
        let some = times-some user (uses_at users k) m in
        among-from_times k (uses_at inside user) (omega arith)

    -- what is reached by users, the other way round
    turned : (a b : ℕ) → Reaches users a b → Reaches inside b a
    turned a b (directly _ _ u) = directly b a (used_by a b u)
    turned a b (through _ c _ u r) = reaches-step inside b c a (turned c b r) (used_by a c u)

    module _ (starts : List ℕ) (own : AreHeads parts heads starts) (forth : ReachesAll inside starts) (back : ReachesAll users starts) where
      -- the head of a number's part, from which it is reached
      from_head : (k : ℕ) → k < length g → (h : ℕ) × (slice_index heads (slice_index parts k) ≡ h) × ((h ≡ k) ⊎ Reaches inside h k)
      from_head k below =
          let s = kept.size in
          elim (forth k (omega arith)) as (λ _. (h : ℕ) × (slice_index heads (slice_index parts k) ≡ h) × ((h ≡ k) ⊎ Reaches inside h k)) [
            | inl there ↦ (k, own k there, inl refl)
            | inr way ↦ (way.0, ap (slice_index heads) (level way.0 k way.2) ∙ own way.0 way.1, inr way.2)
          ]

      -- and which it reaches
      to_head : (k : ℕ) → k < length g → (h : ℕ) × (slice_index heads (slice_index parts k) ≡ h) × ((h ≡ k) ⊎ Reaches inside k h)
      to_head k below =
          let s = kept.size in
          elim (back k (omega arith)) as (λ _. (h : ℕ) × (slice_index heads (slice_index parts k) ≡ h) × ((h ≡ k) ⊎ Reaches inside k h)) [
            | inl there ↦ (k, own k there, inl refl)
            | inr way ↦ let r = turned way.0 k way.2 in (way.0, ap (slice_index heads) (sym (level k way.0 r)) ∙ own way.0 way.1, inr r)
          ]

      joined : (u h k : ℕ) → (h ≡ u) ⊎ Reaches inside u h → (h ≡ k) ⊎ Reaches inside h k → (u ≡ k) ⊎ Reaches inside u k
      joined u h k (inl e) (inl f) = inl (sym e ∙ f)
      joined u h k (inl e) (inr r) = inr (subst (λ (n : ℕ). Reaches inside n k) e r)
      joined u h k (inr r) (inl f) = inr (subst (λ (n : ℕ). Reaches inside u n) f r)
      joined u h k (inr r) (inr s) = inr (reaches_on u h k r s)
        where
          reaches_on : (a b c : ℕ) → Reaches inside a b → Reaches inside b c → Reaches inside a c
          reaches_on a b c (directly _ _ v) t = through a b c v t
          reaches_on a b c (through _ d _ v q) t = through a d c v (reaches_on d b c q t)

      circular : NeverFalls g parts → (k used : ℕ) → is_among used (uses_at inside k) ≡ true → is_in_circle g k used ≡ true
      circular rise k used m =
          let p = inner k used m in
          let below : used < length g = (rise k used p.0).0 in
          let first = to_head used below in
          let last = from_head k (below-from_use g k used p.0) in
          let same : first.0 ≡ last.0 = sym first.1 ∙ ap (slice_index heads) p.1 ∙ last.1 in
          let way = joined used last.0 k (subst (λ (n : ℕ). (n ≡ used) ⊎ Reaches inside used n) same first.2) last.2 in
          let reach : Reaches g used k = elim way as (λ _. Reaches g used k) [
            | inl e ↦ subst (λ (n : ℕ). Reaches g n k) (sym e) (directly k k (subst (λ (n : ℕ). is_among n (uses_at g k) ≡ true) e p.0))
            | inr r ↦ outward used k r
          ] in
          and_from _ _ p.0 ((leads_reaches g used k).1 reach)

      pub parts_circles : NeverFalls g parts → HasCircles g inside
      parts_circles rise k used = same_test _ _ (circular rise k used) (λ h.
          let p = and_parts _ _ h in
          let back_again : Reaches g used k = (leads_reaches g used k).0 p.1 in
          let up = (rise k used p.0).1 in
          let down = rises rise used k back_again in
          let e : slice_index parts used ≡ slice_index parts k = omega arith in
          kept.uses k used ∙ and_from _ _ p.0 (eq-eqb (slice_index parts used) (slice_index parts k) e))
