-- The words of the places that a side of an IF changed are all that the end of the IF makes.
use Rattle.std.proofs.Common.{◌≡◌, ◌≢◌, ◌⊎◌, inl, inr, ℕ, zero, suc, ◌+◌, ◌<◌, ◌≤◌, Bool, true, false, refl, sym, ◌∙◌, ap, subst, List, [], ◌∷◌, ◌++◌, length, map, drop, Option, Some, None, arith, rules, tests, length-append, append_assoc}
use Rattle.std.specs.Prelude.{if◌then◌else◌, nat_eq, slice_set, slice_index_or, slice_index, unwrap_or, Contains}
use Rattle.std.specs.List.Sorted.{IsStrictlyIncreasing}
use Rattle.std.proofs.Math.Seq.{get_or-append_seam}
use Rattle.std.proofs.lemmas.List.{get_or_past, get_or-set_other}
use Rattle.std.proofs.lemmas.List.Elements.{Contains-append_left, Contains-append_right}
use Rattle.program_tree.specs.declared.scratch.Scratch.{Scratch}
use Rattle.program_tree.specs.Places.{place_at}
use Rattle.node_core.specs.declared.node.Node.TheVariants.{Mux}
use Rattle.node_core.specs.Words.{NodeList, Store, word_at, made}
use Rattle.node_core.specs.Stores.{MadeStore, merged_word, merged}
use Rattle.node_core.proofs.Growth.{Grows, grows_none, grows_both, grows_merged_word}
use Rattle.scan_ssa.specs.declared.trail.Change.{Change}
use Rattle.scan_ssa.specs.Trails.{with_changes}
use Rattle.scan_ssa.specs.Merging.{places_in, merge_all}

-- ---- one place

merged_none : (p : Scratch) (c a b : ℕ) (n : NodeList) → merged_word p c None a b n ≡ (None, n)
unfolding merged_word
merged_none p c a b n = refl

-- what holds the same word on both sides goes on holding it
abbrev pub Same : Store → Store → ℕ → Option ℕ → Type 0
Same on off place held = (w : ℕ) → held ≡ Some w → (word_at on place ≡ w) × (word_at off place ≡ w)

merged_same : (p : Scratch) (c : ℕ) (held : Option ℕ) (a b : ℕ) (n : NodeList) → ((w : ℕ) → held ≡ Some w → (a ≡ w) × (b ≡ w)) → merged_word p c held a b n ≡ (held, n)
unfolding merged_word
merged_same p c None a b n same = refl
merged_same p c (Some w) a b n same =
    let is = same w refl in
    ap (λ x. if nat_eq x b then (let r : Option ℕ × NodeList = (Some x, n) in r) else (let m = made (Mux p.kind c x b) n in (Some m.word, m.list))) is.0
    ∙ ap (λ x. if nat_eq w x then (let r : Option ℕ × NodeList = (Some w, n) in r) else (let m = made (Mux p.kind c w x) n in (Some m.word, m.list))) is.1
    ∙ equal (nat_eq w w) (search (rules, tests))
  where
    equal : (test : Bool) → test ≡ true → (if test then (let r : Option ℕ × NodeList = (Some w, n) in r) else (let m = made (Mux p.kind c w w) n in (Some m.word, m.list))) ≡ (Some w, n)
    equal true e = refl
    equal false e = cc

-- ---- all places

-- the places from one on are each the next of those that were touched, or stay
abbrev Covers : Store → Store → ℕ → Store → List ℕ → Type 0
Covers on off place [] touched = (t : ℕ) → Contains touched t → place ≤ t
Covers on off place (h ∷ held) [] = Same on off place h × Covers on off (place + 1) held []
Covers on off place (h ∷ held) (t ∷ ts) = ((t ≡ place) × Covers on off (place + 1) held ts) ⊎ (Same on off place h × Covers on off (place + 1) held (t ∷ ts))

set_seam : (front : Store) (h w : Option ℕ) (held : Store) → slice_set (front ++ h ∷ held) (length front) w ≡ front ++ w ∷ held
set_seam [] h w held = refl
set_seam (f ∷ front) h w held = ap (λ (l : Store). f ∷ l) (set_seam front h w held)

set_past : (s : Store) (place : ℕ) (w : Option ℕ) → length s ≤ place → slice_set s place w ≡ s
set_past [] place w h = refl
set_past (x ∷ s) zero w h = absurd (omega arith)
set_past (x ∷ s) (suc place) w h = ap (λ (l : Store). x ∷ l) (set_past s place w (omega arith))

module _ (ps : List Scratch) (c : ℕ) (on off : Store) where
  abbrev all : List ℕ → Store → NodeList → MadeStore
  all touched store n = merge_all ps c touched (map (word_at on) touched) (map (word_at off) touched) store n

  -- places behind the store hold nothing
  all_past : (touched : List ℕ) (store : Store) (n : NodeList) → ((t : ℕ) → Contains touched t → length store ≤ t) → all touched store n ≡ record { store = store; list = n }
  all_past [] store n past = refl
  all_past (t ∷ ts) store n past =
      let behind : length store ≤ t = past t (0, omega arith, refl) in
      let none : merged_word (place_at ps t) c (slice_index_or store t None) (word_at on t) (word_at off t) n ≡ (None, n) = ap (λ h. merged_word (place_at ps t) c h (word_at on t) (word_at off t) n) (get_or_past store t None behind) ∙ merged_none (place_at ps t) c (word_at on t) (word_at off t) n in
      ap (λ m. all ts (slice_set store t m.0) m.1) none ∙ ap (λ (s : Store). all ts s n) (set_past store t None behind)
      ∙ all_past ts store n (λ u h. past u (h.0 + 1, omega (arith, h.1), shift t u ts h))
    where
      shift : (t u : ℕ) (ts : List ℕ) (h : Contains ts u) → slice_index_or (t ∷ ts) (h.0 + 1) u ≡ u
      shift t u ts h = let e : h.0 + 1 ≡ suc h.0 = omega arith in rw e h.2

  abbrev behind : Store → MadeStore → MadeStore
  behind front r = record { store = front ++ r.store; list = r.list }

  plus_front : (front : Store) (w : Option ℕ) (place : ℕ) → length front ≡ place → length (front ++ w ∷ []) ≡ place + 1
  plus_front front w place is = omega (arith, length-append front (w ∷ []))

  all_is : (held front : Store) (touched : List ℕ) (place : ℕ) (n : NodeList) → length front ≡ place → Covers on off place held touched → all touched (front ++ held) n ≡ behind front (merged ps c on off place held n)
  all_is [] front touched place n is covers =
      all_past touched (front ++ []) n (λ t h. let low = covers t h in omega (arith, length-append front (let e : Store = [] in e), low))
  all_is (h ∷ held) front [] place n is covers =
      let stay = merged_same (place_at ps place) c h (word_at on place) (word_at off place) n covers.0 in
      ap (λ (s : Store). all [] s n) (sym (append_assoc front (h ∷ []) held)) ∙ all_is held (front ++ h ∷ []) [] (place + 1) n (plus_front front h place is) covers.1
      ∙ kept front h held place n stay
    where
      kept : (front : Store) (h : Option ℕ) (held : Store) (place : ℕ) (n : NodeList) → merged_word (place_at ps place) c h (word_at on place) (word_at off place) n ≡ (h, n)
          → behind (front ++ h ∷ []) (merged ps c on off (place + 1) held n) ≡ behind front (merged ps c on off place (h ∷ held) n)
      kept front h held place n stay =
          ap (λ (s : Store). record { store = s; list = (merged ps c on off (place + 1) held n).list }) (append_assoc front (h ∷ []) (merged ps c on off (place + 1) held n).store)
          ∙ ap (λ m. behind front (record { store = m.0 ∷ (merged ps c on off (place + 1) held m.1).store; list = (merged ps c on off (place + 1) held m.1).list })) (sym stay)
  all_is (h ∷ held) front (t ∷ ts) place n is (inl next) =
      let m = merged_word (place_at ps place) c h (word_at on place) (word_at off place) n in
      let at : slice_index_or (front ++ h ∷ held) place None ≡ h = ap (λ i. slice_index_or (front ++ h ∷ held) i None) (sym is) ∙ get_or-append_seam front h held None in
      let put : slice_set (front ++ h ∷ held) place m.0 ≡ (front ++ m.0 ∷ []) ++ held = ap (λ i. slice_set (front ++ h ∷ held) i m.0) (sym is) ∙ set_seam front h m.0 held ∙ sym (append_assoc front (m.0 ∷ []) held) in
      ap (λ p. all (p ∷ ts) (front ++ h ∷ held) n) next.0
      ∙ ap (λ x. let m = merged_word (place_at ps place) c x (word_at on place) (word_at off place) n in all ts (slice_set (front ++ h ∷ held) place m.0) m.1) at
      ∙ ap (λ (s : Store). all ts s m.1) put
      ∙ all_is held (front ++ m.0 ∷ []) ts (place + 1) m.1 (plus_front front m.0 place is) next.1
      ∙ ap (λ (s : Store). record { store = s; list = (merged ps c on off (place + 1) held m.1).list }) (append_assoc front (m.0 ∷ []) (merged ps c on off (place + 1) held m.1).store)
  all_is (h ∷ held) front (t ∷ ts) place n is (inr later) =
      let stay = merged_same (place_at ps place) c h (word_at on place) (word_at off place) n later.0 in
      ap (λ (s : Store). all (t ∷ ts) s n) (sym (append_assoc front (h ∷ []) held)) ∙ all_is held (front ++ h ∷ []) (t ∷ ts) (place + 1) n (plus_front front h place is) later.1
      ∙ ap (λ (s : Store). record { store = s; list = (merged ps c on off (place + 1) held n).list }) (append_assoc front (h ∷ []) (merged ps c on off (place + 1) held n).store)
      ∙ ap (λ m. behind front (record { store = m.0 ∷ (merged ps c on off (place + 1) held m.1).store; list = (merged ps c on off (place + 1) held m.1).list })) (sym stay)

-- ---- the touched places cover what was changed

abbrev RisesFrom : ℕ → List ℕ → Type 0
RisesFrom low [] = Unit {0}
RisesFrom low (t ∷ ts) = (low ≤ t) × RisesFrom (t + 1) ts

rises : (xs : List ℕ) (low : ℕ) → ((d : ℕ) → 0 < length xs → low ≤ slice_index_or xs 0 d) → IsStrictlyIncreasing xs → RisesFrom low xs
rises [] low first h = tt
rises (t ∷ ts) low first h = (first 0 (omega arith), rises ts (t + 1) (λ d some. next ts d some h) (λ k below. rest ts k below h))
  where
    next : (ts : List ℕ) (d : ℕ) → 0 < length ts → IsStrictlyIncreasing (t ∷ ts) → t + 1 ≤ slice_index_or ts 0 d
    next [] d some h = absurd (omega arith)
    next (u ∷ us) d some h = let two : t < u = h 0 (omega arith) in omega arith

    rest : (ts : List ℕ) (k : ℕ) → k + 1 < length ts → IsStrictlyIncreasing (t ∷ ts) → slice_index ts k < slice_index ts (k + 1)
    rest ts k below h =
        let e : k + 1 ≡ suc k = omega arith in
        let f : suc k + 1 ≡ suc (suc k) = omega arith in
        let one : slice_index (t ∷ ts) (suc k) < slice_index (t ∷ ts) (suc k + 1) = h (suc k) (omega arith) in
        rw e (rw f at one)

low_of : (low : ℕ) (ts : List ℕ) → RisesFrom low ts → (t k : ℕ) → k < length ts → slice_index_or ts k t ≡ t → low ≤ t
low_of low [] r t k below at = absurd (omega arith)
low_of low (u ∷ us) r t zero below at = omega (arith, r.0, at)
low_of low (u ∷ us) r t (suc k) below at = let h = low_of (u + 1) us r.1 t k (omega arith) at in omega (arith, r.0, h)

covers : (on off : Store) (held : Store) (touched : List ℕ) (place : ℕ) → RisesFrom place touched → ((i : ℕ) → (Contains touched (place + i) → ⊥) → Same on off (place + i) (slice_index_or held i None)) → Covers on off place held touched
covers on off [] touched place r same = λ t h. low_of place touched r t h.0 h.1 h.2
covers on off (h ∷ held) [] place r same =
    (here place (same 0 (λ x. absurd (omega (arith, x.1)))), covers on off held [] (place + 1) tt (λ i none. next place i (same (suc i) (λ x. absurd (omega (arith, x.1))))))
  where
    here : (p : ℕ) → Same on off (p + 0) h → Same on off p h
    here p s = let e : p + 0 ≡ p = omega arith in subst (λ q. Same on off q h) e s

    next : (p i : ℕ) → Same on off (p + suc i) (slice_index_or held i None) → Same on off (p + 1 + i) (slice_index_or held i None)
    next p i s = let e : p + suc i ≡ p + 1 + i = omega arith in subst (λ q. Same on off q (slice_index_or held i None)) e s
covers on off (h ∷ held) (t ∷ ts) place r same =
    by_place (nat_eq t place) refl
    (λ is. covers on off held ts (place + 1) (subst (λ q. RisesFrom (q + 1) ts) is r.1) (λ i none. next place i (same (suc i) (behind_first (place + suc i) (omega arith) (λ x. none (moved ts i x))))))
    (λ above. covers on off held (t ∷ ts) (place + 1) (above, r.1) (λ i none. next place i (same (suc i) (λ x. none (moved (t ∷ ts) i x)))))
  where
    here : (p : ℕ) → Same on off (p + 0) h → Same on off p h
    here p s = let e : p + 0 ≡ p = omega arith in subst (λ q. Same on off q h) e s

    next : (p i : ℕ) → Same on off (p + suc i) (slice_index_or held i None) → Same on off (p + 1 + i) (slice_index_or held i None)
    next p i s = let e : p + suc i ≡ p + 1 + i = omega arith in subst (λ q. Same on off q (slice_index_or held i None)) e s

    moved : (us : List ℕ) (i : ℕ) → Contains us (place + suc i) → Contains us (place + 1 + i)
    moved us i x = let e : place + suc i ≡ place + 1 + i = omega arith in subst (λ q. Contains us q) e x

    -- a place among these and behind the first is among the others
    behind_first : (q : ℕ) → t < q → (Contains ts q → ⊥) → Contains (t ∷ ts) q → ⊥
    behind_first q above none (zero, below, at) = let is : t ≡ q = at in absurd (omega arith)
    behind_first q above none (suc k, below, at) = none (k, omega arith, at)

    not_here : place + 1 ≤ t → Contains (t ∷ ts) (place + 0) → ⊥
    not_here above x = let low = low_of t (t ∷ ts) (omega arith, r.1) (place + 0) x.0 x.1 x.2 in omega arith

    by_place : (test : Bool) → nat_eq t place ≡ test → (t ≡ place → Covers on off (place + 1) held ts) → (place + 1 ≤ t → Covers on off (place + 1) held (t ∷ ts)) → ((t ≡ place) × Covers on off (place + 1) held ts) ⊎ (Same on off place h × Covers on off (place + 1) held (t ∷ ts))
    by_place true e one other = let is : t ≡ place = search (rules, tests) in inl (is, one is)
    by_place false e one other =
        let apart : t ≢ place = λ is. let two : nat_eq t place ≡ true = search (rules, tests) in cc in
        let above : place + 1 ≤ t = omega (arith, r.0) in
        inr (here place (same 0 (not_here above)), other above)

-- what no change names is as it was
changes_other : (cs : List Change) (s : Store) (p : ℕ) → (Contains (places_in cs) p → ⊥) → slice_index_or (with_changes cs s) p None ≡ slice_index_or s p None
changes_other [] s p none = refl
changes_other (c ∷ cs) s p none =
    let other : p ≢ c.place = λ is. none (0, omega arith, sym is) in
    get_or-set_other (with_changes cs s) c.place p c.word None other ∙ changes_other cs s p (λ x. none (suc x.0, omega (arith, x.1), x.2))

pub merge_is : (ps : List Scratch) (c : ℕ) (one_side other_side : List Change) (begun : Store) (touched : List ℕ) (n : NodeList) → IsStrictlyIncreasing touched → ((p : ℕ) → Contains (places_in one_side ++ places_in other_side) p → Contains touched p)
    → merge_all ps c touched (map (word_at (with_changes one_side begun)) touched) (map (word_at (with_changes other_side begun)) touched) begun n ≡ merged ps c (with_changes one_side begun) (with_changes other_side begun) 0 begun n
merge_is ps c one_side other_side begun touched n rising named =
    all_is ps c (with_changes one_side begun) (with_changes other_side begun) begun [] touched 0 n refl
    (covers (with_changes one_side begun) (with_changes other_side begun) begun touched 0 (rises touched 0 (λ d some. omega arith) rising) same)
  where
    same : (i : ℕ) → (Contains touched (0 + i) → ⊥) → Same (with_changes one_side begun) (with_changes other_side begun) (0 + i) (slice_index_or begun i None)
    same i none w is =
        let e : 0 + i ≡ i = omega arith in
        let one = changes_other one_side begun i (λ x. none (rw e (named i (Contains-append_left (places_in one_side) (places_in other_side) i x)))) in
        let other = changes_other other_side begun i (λ x. none (rw e (named i (Contains-append_right (places_in one_side) (places_in other_side) i x)))) in
        rw e (ap (λ v. unwrap_or v 0) (one ∙ is), ap (λ v. unwrap_or v 0) (other ∙ is))

-- ---- as the code does it

pub merge_ends : (ps : List Scratch) (c : ℕ) (one other : List Change) (begun off s1 s2 s3 : Store) (touched on offs : List ℕ) (n : NodeList) → IsStrictlyIncreasing touched → ((p : ℕ) → Contains (places_in one ++ places_in other) p → Contains touched p)
    → s1 ≡ begun → on ≡ map (word_at (with_changes one s1)) touched → s2 ≡ s1 → offs ≡ map (word_at (with_changes other s2)) touched → s3 ≡ s2 → with_changes other begun ≡ off
    → merge_all ps c touched on offs s3 n ≡ merged ps c (with_changes one begun) off 0 begun n
merge_ends ps c one other begun off s1 s2 s3 touched on offs n rising named is1 is_on is2 is_offs is3 is_off =
    ap (λ ws. merge_all ps c touched ws offs s3 n) (is_on ∙ ap (λ (s : Store). map (word_at (with_changes one s)) touched) is1)
    ∙ ap (λ ws. merge_all ps c touched (map (word_at (with_changes one begun)) touched) ws s3 n) (is_offs ∙ ap (λ (s : Store). map (word_at (with_changes other s)) touched) (is2 ∙ is1))
    ∙ ap (λ (s : Store). merge_all ps c touched (map (word_at (with_changes one begun)) touched) (map (word_at (with_changes other begun)) touched) s n) (is3 ∙ is2 ∙ is1)
    ∙ merge_is ps c one other begun touched n rising named
    ∙ ap (λ (s : Store). merged ps c (with_changes one begun) s 0 begun n) is_off

grows_all : (ps : List Scratch) (c : ℕ) (touched on off : List ℕ) (store : Store) (n : NodeList) → Grows n (merge_all ps c touched on off store n).list
grows_all ps c [] on off store n = grows_none n
grows_all ps c (p ∷ touched) on off store n =
    let m = merged_word (place_at ps p) c (slice_index_or store p None) (slice_index_or on 0 0) (slice_index_or off 0 0) n in
    grows_both n m.1 _ (grows_merged_word (place_at ps p) c _ _ _ n) (grows_all ps c touched (drop 1 on) (drop 1 off) (slice_set store p m.0) m.1)

-- what the first of the places that are left makes is in front of what all make
pub behind_one : (ps : List Scratch) (c p a b : ℕ) (ts touched on off : List ℕ) (store : Store) (n : NodeList) → touched ≡ p ∷ ts → slice_index_or on 0 0 ≡ a → slice_index_or off 0 0 ≡ b
    → Grows (merged_word (place_at ps p) c (slice_index_or store p None) a b n).1 (merge_all ps c touched on off store n).list
behind_one ps c p a b ts touched on off store n is is_a is_b =
    rw (is, ← is_a, ← is_b)
    (let m = merged_word (place_at ps p) c (slice_index_or store p None) (slice_index_or on 0 0) (slice_index_or off 0 0) n in grows_all ps c ts (drop 1 on) (drop 1 off) (slice_set store p m.0) m.1)

pub first_left : (xs : List ℕ) (i : ℕ) → slice_index_or (drop i xs) 0 0 ≡ slice_index_or xs i 0
first_left [] zero = refl
first_left [] (suc i) = refl
first_left (x ∷ xs) zero = refl
first_left (x ∷ xs) (suc i) = first_left xs i

pub front_left : (xs : List ℕ) (i : ℕ) → i < length xs → drop i xs ≡ slice_index_or xs i 0 ∷ drop (suc i) xs
front_left [] i h = absurd (omega arith)
front_left (x ∷ xs) zero h = refl
front_left (x ∷ xs) (suc i) h = front_left xs i (omega arith)

-- the sides are what the code took back
pub sides_are : (ps : List Scratch) (c : ℕ) (one one' other other' : List Change) (begun s off : Store) (n : NodeList) → s ≡ begun → one ≡ one' → other ≡ other' → with_changes other' begun ≡ off
    → merged ps c (with_changes one s) (with_changes other s) 0 s n ≡ merged ps c (with_changes one' begun) off 0 begun n
sides_are ps c one one' other other' begun s off n is e f is_off =
    ap (λ (t : Store). merged ps c (with_changes one t) (with_changes other t) 0 t n) is
    ∙ ap (λ l. merged ps c (with_changes l begun) (with_changes other begun) 0 begun n) e
    ∙ ap (λ (t : Store). merged ps c (with_changes one' begun) t 0 begun n) (ap (λ l. with_changes l begun) f ∙ is_off)
