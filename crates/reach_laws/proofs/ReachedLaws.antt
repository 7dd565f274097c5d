-- Where all POUs have a place in their order, those are marked as reached that are PROGRAMs or that a PROGRAM reaches, and no others.
use Rattle.std.proofs.Common.{◌≡◌, ℕ, ◌+◌, ◌<◌, ◌≤◌, Bool, true, false, List, [], ◌∷◌, ◌++◌, length, map, set, ◌↔◌, refl, arith, ◌∙◌, sym, ap, subst, ◌⊎◌, inl, inr, ⊎_elim, append_assoc}
use Rattle.std.proofs.lemmas.Bool.{cases_Bool, both_ways, cases_eq}
use Rattle.std.proofs.lemmas.List.{length-map, length-set, get_or-set_same, get_or-set_other}
use Rattle.call_order.specs.Marks.{is_marked}
use Rattle.call_order.specs.Uses.{Graph, uses_at, is_among, Reaches, directly, through, order_of}
use Rattle.call_order.proofs.Circles.{reaches-step}
use Rattle.call_order.proofs.Exploring.{below-from_mark}
use Rattle.call_order.proofs.Members.{is_among-left, is_among-head, is_among-tail, is_among-cases, is_among-parts}
use Rattle.call_order.proofs.Orders.{behind_uses, only_once, each_in, below_length}
use Rattle.source_tree.specs.Syntax.{FileData}
use Rattle.naming.specs.Broken.{is_program_pou}
use Rattle.naming.specs.Circles.{uses_in, uses_of}
use Rattle.naming.specs.FileScope.{pous_of}
use Rattle.typing.specs.Reached.{with_marks, mark_uses, marks_along, reached}

-- ---- one mark, and marks for some numbers

marked-set : (marks : List Bool) (n q : ℕ) → q < length marks → (is_marked marks q ≡ true) ⊎ (q ≡ n) → is_marked (set marks n true) q ≡ true
marked-set marks n q below h =
    ⊎_elim (λ (same : q ≡ n). subst (λ (m : ℕ). is_marked (set marks m true) q ≡ true) same (get_or-set_same marks q true false below))
    (λ other. get_or-set_other marks n q true false other ∙ ⊎_elim (λ (was : is_marked marks q ≡ true). was) (λ (same : q ≡ n). absurd (other same)) h) (cases_eq q n)

set-marked : (marks : List Bool) (n q : ℕ) → is_marked (set marks n true) q ≡ true → (is_marked marks q ≡ true) ⊎ (q ≡ n)
set-marked marks n q h = ⊎_elim (λ same. inr same) (λ other. inl (sym (get_or-set_other marks n q true false other) ∙ h)) (cases_eq q n)

length-with : (marks : List Bool) (ks : List ℕ) → length (with_marks marks ks) ≡ length marks
length-with marks [] = refl
length-with marks (k ∷ ks) = length-with (set marks k true) ks ∙ length-set marks k true

kept-with : (marks : List Bool) (ks : List ℕ) (q : ℕ) → is_marked marks q ≡ true → is_marked (with_marks marks ks) q ≡ true
kept-with marks [] q h = h
kept-with marks (k ∷ ks) q h = kept-with (set marks k true) ks q (marked-set marks k q (below-from_mark marks q h) (inl h))

got-with : (marks : List Bool) (ks : List ℕ) (q : ℕ) → q < length marks → is_among q ks ≡ true → is_marked (with_marks marks ks) q ≡ true
got-with marks [] q below m = absurd (let h : ⊥ = cc in h)
got-with marks (k ∷ ks) q below m =
    ⊎_elim (λ (same : q ≡ k). kept-with (set marks k true) ks q (marked-set marks k q below (inr same)))
    (λ more. let l = length-set marks k true in got-with (set marks k true) ks q (omega (arith, l, below)) more) (is_among-cases q k ks m)

was-with : (marks : List Bool) (ks : List ℕ) (q : ℕ) → is_marked (with_marks marks ks) q ≡ true → (is_marked marks q ≡ true) ⊎ (is_among q ks ≡ true)
was-with marks [] q h = inl h
was-with marks (k ∷ ks) q h =
    ⊎_elim (λ now. ⊎_elim (λ was. inl was) (λ (same : q ≡ k). inr (subst (λ (n : ℕ). is_among q (n ∷ ks) ≡ true) same (is_among-head q ks))) (set-marked marks k q now))
    (λ more. inr (is_among-tail q k ks more)) (was-with (set marks k true) ks q h)

-- ---- marks along numbers

module _ (g : Graph) where
  by_mark : (P : List Bool → Type 0) (k : ℕ) (marks : List Bool) → (is_marked marks k ≡ true → P (with_marks marks (uses_at g k))) → (is_marked marks k ≡ false → P marks) → P (mark_uses g k marks)
  by_mark P k marks on off = ⊎_elim (λ (is : is_marked marks k ≡ true). rw is (on is)) (λ (is : is_marked marks k ≡ false). rw is (off is)) (cases_Bool (is_marked marks k))

  length-uses : (k : ℕ) (marks : List Bool) → length (mark_uses g k marks) ≡ length marks
  length-uses k marks = by_mark (λ ms. length ms ≡ length marks) k marks (λ is. length-with marks (uses_at g k)) (λ is. refl)

  kept-uses : (k : ℕ) (marks : List Bool) (q : ℕ) → is_marked marks q ≡ true → is_marked (mark_uses g k marks) q ≡ true
  kept-uses k marks q h = by_mark (λ ms. is_marked ms q ≡ true) k marks (λ is. kept-with marks (uses_at g k) q h) (λ is. h)

  got-uses : (k : ℕ) (marks : List Bool) (q : ℕ) → is_marked marks k ≡ true → q < length marks → is_among q (uses_at g k) ≡ true → is_marked (mark_uses g k marks) q ≡ true
  got-uses k marks q is below used = by_mark (λ ms. is_marked ms q ≡ true) k marks (λ same. got-with marks (uses_at g k) q below used) (λ none. absurd (both_ways _ none is))

  was-uses : (k : ℕ) (marks : List Bool) (q : ℕ) → is_marked (mark_uses g k marks) q ≡ true → (is_marked marks q ≡ true) ⊎ ((is_marked marks k ≡ true) × (is_among q (uses_at g k) ≡ true))
  was-uses k marks q =
      by_mark (λ ms. is_marked ms q ≡ true → (is_marked marks q ≡ true) ⊎ ((is_marked marks k ≡ true) × (is_among q (uses_at g k) ≡ true))) k marks
      (λ is h. ⊎_elim (λ was. inl was) (λ used. inr (is, used)) (was-with marks (uses_at g k) q h)) (λ none h. inl h)

  length-along : (marks : List Bool) (ks : List ℕ) → length (marks_along g marks ks) ≡ length marks
  length-along marks [] = refl
  length-along marks (k ∷ ks) = length-uses k (marks_along g marks ks) ∙ length-along marks ks

  kept-along : (marks : List Bool) (ks : List ℕ) (q : ℕ) → is_marked marks q ≡ true → is_marked (marks_along g marks ks) q ≡ true
  kept-along marks [] q h = h
  kept-along marks (k ∷ ks) q h = kept-uses k (marks_along g marks ks) q (kept-along marks ks q h)

  -- a number had a mark at first, or one that had reaches it
  abbrev pub IsReachedBy : List Bool → ℕ → Type 0
  IsReachedBy marks q = (is_marked marks q ≡ true) ⊎ ((start : ℕ) × (is_marked marks start ≡ true) × Reaches g start q)

  further : (marks : List Bool) (k q : ℕ) → IsReachedBy marks k → is_among q (uses_at g k) ≡ true → IsReachedBy marks q
  further marks k q (inl is) used = inr (k, is, directly k q used)
  further marks k q (inr way) used = inr (way.0, way.1, reaches-step g way.0 k q way.2 used)

  sound : (marks : List Bool) (ks : List ℕ) (q : ℕ) → is_marked (marks_along g marks ks) q ≡ true → IsReachedBy marks q
  sound marks [] q h = inl h
  sound marks (k ∷ ks) q h =
      ⊎_elim (λ was. sound marks ks q was) (λ used. further marks k q (sound marks ks k used.0) used.1) (was-uses k (marks_along g marks ks) q h)

  module _ (marks : List Bool) (long : length marks ≡ length g) where
    -- what those use that have a mark has one too, of the numbers behind some of the order
    abbrev Closes : List ℕ → Type 0
    Closes ks = (k u : ℕ) → is_among k ks ≡ true → is_marked (marks_along g marks ks) k ≡ true → is_among u (uses_at g k) ≡ true → is_marked (marks_along g marks ks) u ≡ true

    below : (before behind : List ℕ) (k u : ℕ) → order_of g ≡ before ++ k ∷ behind → is_among u (uses_at g k) ≡ true → u < length (marks_along g marks behind)
    below before behind k u split used =
        let there : is_among u (order_of g) ≡ true = subst (λ (ns : List ℕ). is_among u ns ≡ true) (sym split) (is_among-left u before (k ∷ behind) (behind_uses g before behind k u split used)) in
        let low = below_length g u there in
        let same = length-along marks behind in
        omega (arith, low, same, long)

    -- a number behind another in the order is none of its uses
    never_back : (before behind : List ℕ) (k later : ℕ) → order_of g ≡ before ++ k ∷ behind → is_among later (k ∷ behind) ≡ true → ¬ (is_among later (uses_at g k) ≡ true)
    never_back before behind k later split there used =
        let p = is_among-parts later (k ∷ behind) there in
        let again : order_of g ≡ (before ++ p.0) ++ later ∷ p.1 = split ∙ ap (λ (ns : List ℕ). before ++ ns) p.2 ∙ sym (append_assoc before p.0 (later ∷ p.1)) in
        both_ways _ (only_once g (before ++ p.0) p.1 later again) (is_among-left later before p.0 (behind_uses g before behind k later split used))

    closes : (before ks : List ℕ) → order_of g ≡ before ++ ks → Closes ks
    closes before [] split k u there is used = absurd (let h : ⊥ = cc in h)
    closes before (n ∷ ks) split k u there is used =
        let rest = marks_along g marks ks in
        let earlier : is_marked rest k ≡ true =
        ⊎_elim (λ (was : is_marked rest k ≡ true). was) (λ back. absurd (never_back before ks n k split there back.1)) (was-uses n rest k is) in
        ⊎_elim
        (λ (same : k ≡ n).
        let of_n : is_among u (uses_at g n) ≡ true = subst (λ (m : ℕ). is_among u (uses_at g m) ≡ true) same used in
        got-uses n rest u (subst (λ (m : ℕ). is_marked rest m ≡ true) same earlier) (below before ks n u split of_n) of_n)
        (λ behind. kept-uses n rest u (closes (before ++ n ∷ []) ks (split ∙ sym (append_assoc before (n ∷ []) ks)) k u behind earlier used)) (is_among-cases k n ks there)

    module _ (whole : length (order_of g) ≡ length g) where
      step : (k u : ℕ) → is_marked (marks_along g marks (order_of g)) k ≡ true → is_among u (uses_at g k) ≡ true → is_marked (marks_along g marks (order_of g)) u ≡ true
      step k u is used =
          let low = below-from_mark (marks_along g marks (order_of g)) k is in
          let same = length-along marks (order_of g) in
          closes [] (order_of g) refl k u (each_in g whole k (omega (arith, low, same, long))) is used

      way : (k q : ℕ) → Reaches g k q → is_marked (marks_along g marks (order_of g)) k ≡ true → is_marked (marks_along g marks (order_of g)) q ≡ true
      way k q (directly _ _ used) is = step k q is used
      way k q (through _ c _ used more) is = way c q more (step k c is used)

      pub exact : (q : ℕ) → (is_marked (marks_along g marks (order_of g)) q ≡ true) ↔ IsReachedBy marks q
      exact q = (
        λ is. sound marks (order_of g) q is,
        λ by. ⊎_elim (λ (is : is_marked marks q ≡ true). kept-along marks (order_of g) q is) (λ from. way from.0 q from.2 (kept-along marks (order_of g) from.0 from.1)) by,
      )

-- A POU is marked as reached exactly where it is a PROGRAM, or a PROGRAM reaches it.
pub reached_exact : (f : FileData) → length (order_of (uses_of f)) ≡ length (pous_of f) → (k : ℕ) → (is_marked (reached f) k ≡ true) ↔ IsReachedBy (uses_of f) (map is_program_pou (pous_of f)) k
unfolding reached
reached_exact f ordered k =
    let graph : length (uses_of f) ≡ length (pous_of f) = length-map (pous_of f) (uses_in f) in
    exact (uses_of f) (map is_program_pou (pous_of f)) (length-map (pous_of f) is_program_pou ∙ sym graph) (ordered ∙ sym graph) k
