-- What a call of a FUNCTION does before its body runs: the scratch cells of its cells get the values of the state that its body begins with.
use Rattle.std.proofs.Common.{◌≡◌, ◌≢◌, ℕ, zero, suc, ◌+◌, ◌-◌, ◌<◌, ◌≤◌, Bool, true, false, not, ◌||◌, List, [], ◌∷◌, ◌++◌, length, ℤ, pos, refl, sym, ap, subst, ◌∙◌, arith, rules, tests, length-append}
use Rattle.std.proofs.Math.Bool.{or-true, or-false, or_assoc}
use Rattle.std.specs.Prelude.{slice_set, slice_index_or, if◌then◌else◌, nat_lt}
use Rattle.std.proofs.lemmas.List.{length-set, get_or-set_same, get_or-set_other}
use Rattle.plc_types.specs.declared.range.Range.{Range}
use Rattle.plc_types.specs.Types.{in_range}
use Rattle.plc_types.proofs.InRange.{in_range_from}
use Rattle.program_tree.specs.Tree.{Expression, number}
use Rattle.program_tree.specs.declared.scratch.Scratch.{Scratch}
use Rattle.meaning.specs.Values.{State, no_callees, fault_in, value_of, faults}
use Rattle.meaning.specs.Effects.{range_at, with_fault, stored}
use Rattle.meaning.specs.Calls.{given}
use Rattle.meaning.specs.Frames.{FrameData, type_at, scratch_at, initial_at, counted_from}
use Rattle.scan_model.specs.InRange.{IsInRange}
use Rattle.flat_core.specs.FlatTree.{set}
use Rattle.flat_core.specs.FlatView.{flats_of}
use Rattle.flat_core.specs.FlatScans.{takes, placed, run_of, run_of_all}
use Rattle.flat_form.specs.Frames.{input_start, others_behind, other_scratch, other_starts, places_of}
use Rattle.flat_form.specs.Owners.{call_owner}
use Rattle.flat_form.specs.WellTyped.{FrameFits, tested_in}
use Rattle.flat_laws.proofs.Shown.{held, Owns, Shows, SameUpTo, Stands}
use Rattle.flat_laws.proofs.Sequences.{Stands-front, Stands-back}

-- ---- a run that leaves the places below k as they are, and may set FAULT

pub record Reached (k : ℕ) (faulted : Bool) (x y : State) : Type 0 where
  pub long : length y ≡ length x
  pub kept : SameUpTo k x y
  pub fault : held y 0 ≡ (if faulted then pos 1 else held x 0)

pub either_fault : (a b : Bool) (u v w : ℤ) → v ≡ (if a then pos 1 else u) → w ≡ (if b then pos 1 else v) → w ≡ (if a || b then pos 1 else u)
either_fault true true u v w e f = f
either_fault true false u v w e f = f ∙ e
either_fault false true u v w e f = f
either_fault false false u v w e f = f ∙ e

pub Reached-none : (k : ℕ) (x : State) → Reached k false x x
Reached-none k x = record { long = refl; kept = λ p a b. refl; fault = refl }

pub Reached-both : (k j : ℕ) (a b : Bool) (x y z : State) → k ≤ j → Reached k a x y → Reached j b y z → Reached k (a || b) x z
Reached-both k j a b x y z h p q = record {
  long = q.long ∙ p.long;
  kept = λ i low high. q.kept i low (omega arith) ∙ p.kept i low high;
  fault = either_fault a b (held x 0) (held y 0) (held z 0) p.fault q.fault;
}

pub Reached-same : (k : ℕ) (a b : Bool) (x y : State) → a ≡ b → Reached k a x y → Reached k b x y
Reached-same k a b x y e r = subst (λ c. Reached k c x y) e r

pub Reached-scratch : (k j : ℕ) (v : ℤ) (x : State) → 0 < k → k ≤ j → Reached k false x (slice_set x j v)
Reached-scratch k j v x some h = record {
  long = length-set x j v;
  kept = λ p a b. get_or-set_other x j p v (pos 0) (omega arith);
  fault = get_or-set_other x j 0 v (pos 0) (omega arith);
}

pub Reached-with_fault : (k : ℕ) (b : Bool) (x : State) → 0 < length x → Reached k b x (with_fault b x)
Reached-with_fault k false x some = Reached-none k x
Reached-with_fault k true x some = record {
  long = length-set x 0 (pos 1);
  kept = λ p a b. get_or-set_other x 0 p (pos 1) (pos 0) (omega arith);
  fault = get_or-set_same x 0 (pos 1) (pos 0) some;
}

-- ---- scratch cells among all

module _ (rs : List Range) (cs : List Scratch) where
  pub placed_scratch : (j : ℕ) (v : ℤ) (x : State) → length rs ≤ j → placed rs cs j v x ≡ (if takes cs (j - length rs) v then slice_set x j v else slice_set x 0 (pos 1))
  placed_scratch j v x h = let behind : nat_lt j (length rs) ≡ false = search (rules, tests) in rw behind refl

-- ---- the state that a FUNCTION is given

pub in_range-at : (rs : List Range) (s : State) (p : ℕ) → IsInRange rs s → p < length rs → in_range (held s p) (range_at rs p) ≡ true
in_range-at [] s p f h = absurd (omega (arith, h))
in_range-at (r ∷ rs) [] p f h = absurd f
in_range-at (r ∷ rs) (v ∷ s) zero f h = in_range_from v r f.0 f.1
in_range-at (r ∷ rs) (v ∷ s) (suc p) f h = in_range-at rs s p f.2 (omega (arith, h))

pub length-stored : (rs : List Range) (c : ℕ) (v : ℤ) (u : State) → length (stored rs c v u) ≡ length u
length-stored rs c v u = by_test (in_range v (range_at rs c))
  where
    by_test : (b : Bool) → length (if b then slice_set u c v else slice_set u 0 (pos 1)) ≡ length u
    by_test true = length-set u c v
    by_test false = length-set u 0 (pos 1)

pub stored-same : (rs : List Range) (c : ℕ) (v : ℤ) (u : State) → 0 < c → c < length u → held (stored rs c v u) c ≡ (if in_range v (range_at rs c) then v else held u c)
stored-same rs c v u some h = by_test (in_range v (range_at rs c))
  where
    by_test : (b : Bool) → held (if b then slice_set u c v else slice_set u 0 (pos 1)) c ≡ (if b then v else held u c)
    by_test true = get_or-set_same u c v (pos 0) h
    by_test false = get_or-set_other u 0 c (pos 1) (pos 0) (omega arith)

pub stored-other : (rs : List Range) (c p : ℕ) (v : ℤ) (u : State) → 0 < p → p ≢ c → held (stored rs c v u) p ≡ held u p
stored-other rs c p v u some other = by_test (in_range v (range_at rs c))
  where
    by_test : (b : Bool) → held (if b then slice_set u c v else slice_set u 0 (pos 1)) p ≡ held u p
    by_test true = get_or-set_other u c p v (pos 0) other
    by_test false = get_or-set_other u 0 p (pos 1) (pos 0) (omega arith)

stored-fault : (rs : List Range) (c : ℕ) (v : ℤ) (u : State) → 0 < c → 0 < length u → fault_in (stored rs c v u) ≡ (fault_in u || not (in_range v (range_at rs c)))
stored-fault rs c v u some room = by_test (in_range v (range_at rs c))
  where
    by_test : (b : Bool) → fault_in (if b then slice_set u c v else slice_set u 0 (pos 1)) ≡ (fault_in u || not b)
    by_test true = let same : held (slice_set u c v) 0 ≡ held u 0 = get_or-set_other u c 0 v (pos 0) (omega arith) in rw same (sym (or-false (fault_in u)))
    by_test false = let now : held (slice_set u 0 (pos 1)) 0 ≡ pos 1 = get_or-set_same u 0 (pos 1) (pos 0) room in rw now (sym (or-true (fault_in u)))

-- some value does not fit its cell
abbrev pub unfit : List Range → ℕ → List ℤ → Bool
unfit rs place [] = false
unfit rs place (v ∷ vs) = not (in_range v (range_at rs place)) || unfit rs (place + 1) vs

pub given-long : (rs : List Range) (place : ℕ) (vs : List ℤ) (u : State) → length (given rs place vs u) ≡ length u
given-long rs place [] u = refl
given-long rs place (v ∷ vs) u = given-long rs (place + 1) vs (stored rs place v u) ∙ length-stored rs place v u

pub given-before : (rs : List Range) (place p : ℕ) (vs : List ℤ) (u : State) → 0 < p → p < place → held (given rs place vs u) p ≡ held u p
given-before rs place p [] u some h = refl
given-before rs place p (v ∷ vs) u some h = given-before rs (place + 1) p vs (stored rs place v u) some (omega arith) ∙ stored-other rs place p v u some (omega arith)

pub given-behind : (rs : List Range) (place p : ℕ) (vs : List ℤ) (u : State) → 0 < p → place + length vs ≤ p → held (given rs place vs u) p ≡ held u p
given-behind rs place p [] u some h = refl
given-behind rs place p (v ∷ vs) u some h = given-behind rs (place + 1) p vs (stored rs place v u) some (omega (arith, h)) ∙ stored-other rs place p v u some (omega (arith, h))

pub given-fault : (rs : List Range) (place : ℕ) (vs : List ℤ) (u : State) → 0 < place → 0 < length u → fault_in (given rs place vs u) ≡ (fault_in u || unfit rs place vs)
given-fault rs place [] u some room = sym (or-false (fault_in u))
given-fault rs place (v ∷ vs) u some room =
    let long = length-stored rs place v u in
    given-fault rs (place + 1) vs (stored rs place v u) (omega arith) (omega arith)
    ∙ ap (λ b. b || unfit rs (place + 1) vs) (stored-fault rs place v u some room)
    ∙ or_assoc (fault_in u) (not (in_range v (range_at rs place))) (unfit rs (place + 1) vs)

-- ---- scratch cells that stand for cells of a frame, from a place on

pub record Seat (rs : List Range) (cs : List Scratch) (frame : FrameData) (low high place p : ℕ) : Type 0 where
  pub above : low ≤ p
  pub below : p < high
  pub fits : (v : ℤ) → takes cs (p - length rs) v ≡ (not (type_at frame.types place).is_subrange || in_range v (range_at frame.ranges place))

module _ (rs : List Range) (cs : List Scratch) (frame : FrameData) where
  -- they rise
  abbrev pub Seated : ℕ → ℕ → ℕ → List ℕ → Type 0
  Seated low high place [] = low ≤ high
  Seated low high place (p ∷ ps) = (low ≤ p) × ((v : ℤ) → takes cs (p - length rs) v ≡ (not (type_at frame.types place).is_subrange || in_range v (range_at frame.ranges place))) × Seated (p + 1) high (place + 1) ps

  pub Seated-order : (low high place : ℕ) (ps : List ℕ) → Seated low high place ps → low ≤ high
  Seated-order low high place [] h = h
  Seated-order low high place (p ∷ ps) h = let first = h.0 in let rest = Seated-order (p + 1) high (place + 1) ps h.2 in omega arith

  Seated-lower : (low mid high place : ℕ) (ps : List ℕ) → low ≤ mid → Seated mid high place ps → Seated low high place ps
  Seated-lower low mid high place [] le h = omega arith
  Seated-lower low mid high place (p ∷ ps) le h = let first = h.0 in (omega arith, h.1, h.2)

  pub Seated-append : (low mid high place after : ℕ) (a b : List ℕ) → after ≡ place + length a → Seated low mid place a → Seated mid high after b → Seated low high place (a ++ b)
  Seated-append low mid high place after [] b e g h = Seated-lower low mid high place b g (let same : after ≡ place = omega (arith, e) in subst (λ n. Seated mid high n b) same h)
  Seated-append low mid high place after (p ∷ a) b e g h = (g.0, g.1, Seated-append (p + 1) mid high (place + 1) after a b (omega (arith, e)) g.2 h)

  pub seat : (low high place q i : ℕ) (ps : List ℕ) → q ≡ place + i → Seated low high place ps → i < length ps → Seat rs cs frame low high q (slice_index_or ps i 0)
  seat low high place q i [] e h less = absurd (omega (arith, less))
  seat low high place q zero (p ∷ ps) e h less =
      let first = h.0 in
      let order = Seated-order (p + 1) high (place + 1) ps h.2 in
      let same : place ≡ q = omega (arith, e) in
      record { above = h.0; below = omega arith; fits = subst (λ n. (v : ℤ) → takes cs (p - length rs) v ≡ (not (type_at frame.types n).is_subrange || in_range v (range_at frame.ranges n))) same h.1 }
  seat low high place q (suc i) (p ∷ ps) e h less =
      let first = h.0 in
      let more = seat (p + 1) high (place + 1) q i ps (omega (arith, e)) h.2 (omega (arith, less)) in
      record { above = omega arith; below = more.below; fits = more.fits }

  pub same_seat : (low high place i j : ℕ) (ps : List ℕ) → Seated low high place ps → i < length ps → j < length ps → slice_index_or ps i 0 ≡ slice_index_or ps j 0 → i ≡ j
  same_seat low high place i j [] h a b e = absurd (omega (arith, a))
  same_seat low high place zero zero (p ∷ ps) h a b e = refl
  same_seat low high place zero (suc j) (p ∷ ps) h a b e = let other = seat (p + 1) high (place + 1) (place + 1 + j) j ps refl h.2 (omega (arith, b)) in absurd (omega (arith, e))
  same_seat low high place (suc i) zero (p ∷ ps) h a b e = let other = seat (p + 1) high (place + 1) (place + 1 + i) i ps refl h.2 (omega (arith, a)) in absurd (omega (arith, e))
  same_seat low high place (suc i) (suc j) (p ∷ ps) h a b e = ap suc (same_seat (p + 1) high (place + 1) i j ps h.2 (omega (arith, a)) (omega (arith, b)) e)

-- scratch cells hold the values of a state from a place on
abbrev pub Filled : State → State → ℕ → List ℕ → Type 0
Filled y t place [] = Unit {0}
Filled y t place (p ∷ ps) = (held y p ≡ held t place) × Filled y t (place + 1) ps

pub Filled-append : (y t : State) (place after : ℕ) (a b : List ℕ) → after ≡ place + length a → Filled y t place a → Filled y t after b → Filled y t place (a ++ b)
Filled-append y t place after [] b e g h = let same : after ≡ place = omega (arith, e) in subst (λ n. Filled y t n b) same h
Filled-append y t place after (p ∷ a) b e g h = (g.0, Filled-append y t (place + 1) after a b (omega (arith, e)) g.1 h)

pub Filled-at : (y t : State) (place q i : ℕ) (ps : List ℕ) → q ≡ place + i → Filled y t place ps → i < length ps → held y (slice_index_or ps i 0) ≡ held t q
Filled-at y t place q i [] e h less = absurd (omega (arith, less))
Filled-at y t place q zero (p ∷ ps) e h less = h.0 ∙ ap (λ n. held t n) (let same : place ≡ q = omega (arith, e) in same)
Filled-at y t place q (suc i) (p ∷ ps) e h less = Filled-at y t (place + 1) q i ps (omega (arith, e)) h.1 (omega (arith, less))

-- another state with the same values from the place on
pub Filled-other : (y t u : State) (place : ℕ) (ps : List ℕ) → ((p : ℕ) → place ≤ p → p < place + length ps → held u p ≡ held t p) → Filled y t place ps → Filled y u place ps
Filled-other y t u place [] same h = tt
Filled-other y t u place (p ∷ ps) same h = (h.0 ∙ sym (same place (omega arith) (omega arith)), Filled-other y t u (place + 1) ps (λ q a b. same q (omega arith) (omega (arith, b))) h.1)

module _ (rs : List Range) (cs : List Scratch) (frame : FrameData) where
  -- a store that is the same below where they end
  pub Filled-kept : (y z t : State) (low high place : ℕ) (ps : List ℕ) → 0 < low → SameUpTo high y z → Seated rs cs frame low high place ps → Filled y t place ps → Filled z t place ps
  Filled-kept y z t low high place [] some same seated h = tt
  Filled-kept y z t low high place (p ∷ ps) some same seated h =
      let first = seated.0 in
      let order = Seated-order rs cs frame (p + 1) high (place + 1) ps seated.2 in
      (same p (omega arith) (omega arith) ∙ h.0, Filled-kept y z t (p + 1) high (place + 1) ps (omega arith) same seated.2 h.1)

  -- ---- assignments that start cells

  module _ (cells : 0 < length rs) (begins : (p : ℕ) → p < length frame.ranges → in_range (initial_at frame p) (range_at frame.ranges p) ≡ true) where
    started : (place k : ℕ) (x : State) → length rs ≤ k → place < length frame.ranges → ((v : ℤ) → takes cs (k - length rs) v ≡ (not (type_at frame.types place).is_subrange || in_range v (range_at frame.ranges place)))
        → placed rs cs k (initial_at frame place) x ≡ slice_set x k (initial_at frame place)
    started place k x le less fits =
        placed_scratch rs cs k (initial_at frame place) x le
        ∙ ap (λ (b : Bool). if b then slice_set x k (initial_at frame place) else slice_set x 0 (pos 1)) (fits (initial_at frame place) ∙ ap (λ b. not (type_at frame.types place).is_subrange || b) (begins place less) ∙ or-true (not (type_at frame.types place).is_subrange))

    pub record Begun (place n k : ℕ) (x y : State) : Type 0 where
      pub reached : Reached k false x y
      pub seated : Seated rs cs frame k (k + n) place (counted_from k n)
      pub filled : Filled y frame.start place (counted_from k n)

    pub begun : (n place k : ℕ) (x : State) → length rs ≤ k → k + n ≤ length x → place + n ≤ length frame.ranges → Stands rs cs k (other_scratch frame place n) → Begun place n k x (run_of_all rs cs (flats_of (other_starts frame place n k)) x)
    begun zero place k x le room fit stands = record { reached = Reached-none k x; seated = omega arith; filled = tt }
    begun (suc n) place k x le room fit stands =
        let v = initial_at frame place in
        let z = slice_set x k v in
        let fits : (w : ℤ) → takes cs (k - length rs) w ≡ (not (type_at frame.types place).is_subrange || in_range w (range_at frame.ranges place))
        = λ w. let same : k - length rs ≡ k + 0 - length rs = omega arith in ap (λ i. takes cs i w) same ∙ stands 0 w (omega arith) in
        let first : Reached k false x z = Reached-scratch k k v x (omega arith) (omega arith) in
        let long = first.long in
        let later : Stands rs cs (k + 1) (other_scratch frame (place + 1) n) = Stands-back rs cs k (scratch_at frame place ∷ []) (other_scratch frame (place + 1) n) stands in
        let rest = begun n (place + 1) (k + 1) z (omega arith) (omega arith) (omega arith) later in
        let y = run_of_all rs cs (flats_of (other_starts frame (place + 1) n (k + 1))) z in
        let all : Begun place (suc n) k x y = record {
          reached = Reached-both k (k + 1) false false x z y (omega arith) first rest.reached;
          seated = (omega arith, fits, (let same : k + 1 + n ≡ k + suc n = omega arith in subst (λ m. Seated rs cs frame (k + 1) m (place + 1) (counted_from (k + 1) n)) same rest.seated));
          filled = (rest.reached.kept k (omega arith) (omega arith) ∙ get_or-set_same x k v (pos 0) (omega arith), rest.filled);
        } in
        subst (λ w. Begun place (suc n) k x (run_of_all rs cs (flats_of (other_starts frame (place + 1) n (k + 1))) w)) (sym (started place k x le (omega arith) fits)) all

    -- ---- an input's value

    input_begun : (place j : ℕ) (x : State) → length rs ≤ j → j < length x → place < length frame.ranges → ((v : ℤ) → takes cs (j - length rs) v ≡ (not (type_at frame.types place).is_subrange || in_range v (range_at frame.ranges place)))
        → Reached j false x (run_of_all rs cs (flats_of (input_start frame place j)) x) × ((type_at frame.types place).is_subrange ≡ true → held (run_of_all rs cs (flats_of (input_start frame place j)) x) j ≡ initial_at frame place)
    input_begun place j x le room less fits = by_test (type_at frame.types place).is_subrange
      where
        v : ℤ
        v = initial_at frame place

        by_test : (b : Bool) → Reached j false x (run_of_all rs cs (flats_of (if b then set j (number (initial_at frame place)) ∷ [] else [])) x) × (b ≡ true → held (run_of_all rs cs (flats_of (if b then set j (number (initial_at frame place)) ∷ [] else [])) x) j ≡ initial_at frame place)
        by_test true =
            let e = started place j x le less fits in
            (subst (λ w. Reached j false x w) (sym e) (Reached-scratch j j (initial_at frame place) x (omega arith) (omega arith)), λ t. ap (λ w. held w j) e ∙ get_or-set_same x j (initial_at frame place) (pos 0) room)
        by_test false = (Reached-none j x, λ t. cc)

    pub record InputSet (place j : ℕ) (faulted : Bool) (v : ℤ) (x y : State) : Type 0 where
      pub reached : Reached j (faulted || not (in_range v (range_at frame.ranges place))) x y
      pub cell : held y j ≡ (if in_range v (range_at frame.ranges place) then v else initial_at frame place)

    input_placed : (place j : ℕ) (faulted : Bool) (v : ℤ) (x : State) → length rs ≤ j → j < length x → ((v : ℤ) → takes cs (j - length rs) v ≡ (not (type_at frame.types place).is_subrange || in_range v (range_at frame.ranges place)))
        → ((type_at frame.types place).is_subrange || in_range v (range_at frame.ranges place)) ≡ true → ((type_at frame.types place).is_subrange ≡ true → held x j ≡ initial_at frame place)
        → InputSet place j faulted v x (placed rs cs j v (with_fault faulted x))
    input_placed place j faulted v x le room fits may holds =
        let e : placed rs cs j v (with_fault faulted x) ≡ (if not (type_at frame.types place).is_subrange || in_range v (range_at frame.ranges place) then slice_set (with_fault faulted x) j v else slice_set (with_fault faulted x) 0 (pos 1))
        = placed_scratch rs cs j v (with_fault faulted x) le ∙ ap (λ (b : Bool). if b then slice_set (with_fault faulted x) j v else slice_set (with_fault faulted x) 0 (pos 1)) (fits v) in
        let both = by_tests (type_at frame.types place).is_subrange (in_range v (range_at frame.ranges place)) may holds in
        subst (λ w. InputSet place j faulted v x w) (sym e) (record { reached = both.0; cell = both.1 })
      where
        by_tests : (l b : Bool) → (l || b) ≡ true → (l ≡ true → held x j ≡ initial_at frame place)
            → Reached j (faulted || not b) x (if not l || b then slice_set (with_fault faulted x) j v else slice_set (with_fault faulted x) 0 (pos 1))
            × (held (if not l || b then slice_set (with_fault faulted x) j v else slice_set (with_fault faulted x) 0 (pos 1)) j ≡ (if b then v else initial_at frame place))
        by_tests l true h is =
            let first = Reached-with_fault j faulted x (omega arith) in
            let long = first.long in
            let taken : (not l || true) ≡ true = or-true (not l) in
            rw taken (Reached-both j j faulted false x _ _ (omega arith) first (Reached-scratch j j v (with_fault faulted x) (omega arith) (omega arith)), get_or-set_same (with_fault faulted x) j v (pos 0) (omega arith))
        by_tests true false h is =
            let first = Reached-with_fault j faulted x (omega arith) in
            let long = first.long in (
              Reached-both j j faulted true x _ _ (omega arith) first (Reached-with_fault j true (with_fault faulted x) (omega arith)),
              get_or-set_other (with_fault faulted x) 0 j (pos 1) (pos 0) (omega arith) ∙ same_cell faulted ∙ is refl,
            )
          where
            same_cell : (b : Bool) → held (with_fault b x) j ≡ held x j
            same_cell true = get_or-set_other x 0 j (pos 1) (pos 0) (omega arith)
            same_cell false = refl
        by_tests false false h is = cc

    -- the expression that is left has this value, and meets that fault, also once the input's cell is set
    pub input_set : (place j : ℕ) (left : Expression) (v : ℤ) (a whole : Bool) (x : State) → length rs ≤ j → j < length x → place < length frame.ranges
        → ((v : ℤ) → takes cs (j - length rs) v ≡ (not (type_at frame.types place).is_subrange || in_range v (range_at frame.ranges place)))
        → ((type_at frame.types place).is_subrange || in_range v (range_at frame.ranges place)) ≡ true
        → ((z : State) → SameUpTo j x z → value_of no_callees 0 left z ≡ v) → ((z : State) → SameUpTo j x z → (a || faults no_callees 0 left z) ≡ whole)
        → (faulted : Bool) × ((a || faulted) ≡ whole) × InputSet place j faulted v x (run_of rs cs (set j left) (run_of_all rs cs (flats_of (input_start frame place j)) x))
    input_set place j left v a whole x le room less fits may value fault =
        let z = run_of_all rs cs (flats_of (input_start frame place j)) x in
        let first = input_begun place j x le room less fits in
        let long = first.0.long in
        let behind = input_placed place j (faults no_callees 0 left z) v z le (omega arith) fits may first.1 in
        let all : InputSet place j (faults no_callees 0 left z) v x (placed rs cs j v (with_fault (faults no_callees 0 left z) z)) = record {
          reached = Reached-both j j false (faults no_callees 0 left z || not (in_range v (range_at frame.ranges place))) x z _ (omega arith) first.0 behind.reached;
          cell = behind.cell;
        } in
        (faults no_callees 0 left z, fault z first.0.kept, subst (λ w. InputSet place j (faults no_callees 0 left z) v x (placed rs cs j w (with_fault (faults no_callees 0 left z) z))) (sym (value z first.0.kept)) all)

-- ---- the cells of a call: what it answers stands last among the scratch cells, and first behind FAULT in the frame

module _ (rs : List Range) (cs : List Scratch) (frame : FrameData) (low answer : ℕ) (ps : List ℕ) (long : length frame.ranges ≡ 2 + length ps) (le : length rs ≤ low) (cells : 0 < length rs) (seated : Seated rs cs frame low answer 2 ps)
    (fits : (v : ℤ) → takes cs (answer - length rs) v ≡ (not (type_at frame.types 1).is_subrange || in_range v (range_at frame.ranges 1))) where
  seat_at : (p : ℕ) → 0 < p → p < length frame.ranges → Seat rs cs frame low (answer + 1) p (call_owner answer ps p)
  seat_at zero some h = absurd (omega (arith, some))
  seat_at (suc zero) some h = let order = Seated-order rs cs frame low answer 2 ps seated in record { above = omega arith; below = omega arith; fits = fits }
  seat_at (suc (suc i)) some h =
      let s = seat rs cs frame low answer 2 (suc (suc i)) i ps (omega arith) seated (omega (arith, h)) in
      record { above = s.above; below = (let b = s.below in omega arith); fits = s.fits }

  same_at : (p q : ℕ) → 0 < p → p < length frame.ranges → 0 < q → q < length frame.ranges → call_owner answer ps p ≡ call_owner answer ps q → p ≡ q
  same_at zero q a b c d e = absurd (omega (arith, a))
  same_at (suc p) zero a b c d e = absurd (omega (arith, c))
  same_at (suc zero) (suc zero) a b c d e = refl
  same_at (suc zero) (suc (suc j)) a b c d e = let s = seat rs cs frame low answer 2 (2 + j) j ps refl seated (omega (arith, d)) in absurd (omega (arith, e))
  same_at (suc (suc i)) (suc zero) a b c d e = let s = seat rs cs frame low answer 2 (2 + i) i ps refl seated (omega (arith, b)) in absurd (omega (arith, e))
  same_at (suc (suc i)) (suc (suc j)) a b c d e = ap (λ n. suc (suc n)) (same_seat rs cs frame low answer 2 i j ps seated (omega (arith, b)) (omega (arith, d)) e)

  call_owns : Owns rs cs frame.ranges (tested_in frame) (call_owner answer ps) (answer + 1)
  call_owns = record {
    above = λ p a b. let s = seat_at p a b in omega arith;
    below = λ p a b. (seat_at p a b).below;
    apart = same_at;
    puts = λ p v x a b. let s = seat_at p a b in placed_scratch rs cs (call_owner answer ps p) v x (omega arith) ∙ ap (λ (b : Bool). if b then slice_set x (call_owner answer ps p) v else slice_set x 0 (pos 1)) (s.fits v);
  }

  call_cells : (t y : State) → Filled y t 2 ps → held y answer ≡ held t 1 → (p : ℕ) → 0 < p → p < length frame.ranges → held y (call_owner answer ps p) ≡ held t p
  call_cells t y filled is zero some h = absurd (omega (arith, some))
  call_cells t y filled is (suc zero) some h = is
  call_cells t y filled is (suc (suc i)) some h = Filled-at y t 2 (suc (suc i)) i ps (omega arith) filled (omega (arith, h))

length-counted : (k n : ℕ) → length (counted_from k n) ≡ n
length-counted k zero = refl
length-counted k (suc n) = ap suc (length-counted (k + 1) n)

pub length-other : (frame : FrameData) (place n : ℕ) → length (other_scratch frame place n) ≡ n
length-other frame place zero = refl
length-other frame place (suc n) = ap suc (length-other frame (place + 1) n)

-- the store behind the inputs' values, and that in which the body begins to run
pub record CallBegun (rs : List Range) (cs : List Scratch) (frame : FrameData) (low k others : ℕ) (ps : List ℕ) (after : List Scratch) (g : ℤ) (t x y : State) : Type 0 where
  pub reached : Reached k false x y
  pub owns : Owns rs cs frame.ranges (tested_in frame) (call_owner (k + others) ps) (k + others + 1)
  pub shows : Shows (length frame.ranges) (call_owner (k + others) ps) g t y
  pub far : (p : ℕ) → 0 < p → p < length frame.ranges → low ≤ call_owner (k + others) ps p
  pub stands : Stands rs cs (k + others + 1) after
  pub room : k + others + 1 + length after ≤ length y

-- each cell of a frame begins in its range
pub begins : (frame : FrameData) (inputs : ℕ) → FrameFits frame inputs → (p : ℕ) → p < length frame.ranges → in_range (initial_at frame p) (range_at frame.ranges p) ≡ true
begins frame inputs fits p h = in_range-at frame.ranges frame.start p fits.start_in_range h

module _ (rs : List Range) (cs : List Scratch) (frame : FrameData) (cells : 0 < length rs) (inputs low k : ℕ) (places : List ℕ) (fits : FrameFits frame inputs) where
  pub call_begun : (after : List Scratch) (g : ℤ) (t x : State) → length rs ≤ low → length places ≡ inputs → Seated rs cs frame low k 2 places → Filled x t 2 places
      → length t ≡ length frame.ranges → held t 1 ≡ initial_at frame 1 → ((p : ℕ) → 2 + inputs ≤ p → held t p ≡ initial_at frame p) → held x 0 ≡ (if fault_in t then pos 1 else g)
      → Stands rs cs k (other_scratch frame (2 + inputs) (others_behind frame inputs) ++ scratch_at frame 1 ∷ after)
      → k + length (other_scratch frame (2 + inputs) (others_behind frame inputs) ++ scratch_at frame 1 ∷ after) ≤ length x
      → CallBegun rs cs frame low k (others_behind frame inputs) (places_of places k (others_behind frame inputs)) after g t x
      (placed rs cs (k + others_behind frame inputs) (initial_at frame 1) (run_of_all rs cs (flats_of (other_starts frame (2 + inputs) (others_behind frame inputs) k)) x))
  call_begun after g t x le so_many seated filled long answer others fault stands room =
      let o = others_behind frame inputs in
      let a = k + o in
      let made = other_scratch frame (2 + inputs) o in
      let parts = length-append made (scratch_at frame 1 ∷ after) in
      let made_long = length-other frame (2 + inputs) o in
      let order = Seated-order rs cs frame low k 2 places seated in
      let same_long = fits.ranges in
      let enough = fits.room in
      let first = begun rs cs frame cells (begins frame inputs fits) o (2 + inputs) k x (omega arith) (omega arith) (omega arith) (Stands-front rs cs k made (scratch_at frame 1 ∷ after) stands) in
      let z = run_of_all rs cs (flats_of (other_starts frame (2 + inputs) o k)) x in
      let z_long = first.reached.long in
      let y = slice_set z a (initial_at frame 1) in
      let behind : Stands rs cs (k + length made) (scratch_at frame 1 ∷ after) = Stands-back rs cs k made (scratch_at frame 1 ∷ after) stands in
      let behind_here : Stands rs cs a (scratch_at frame 1 ∷ after) = (let same : k + length made ≡ a = omega arith in subst (λ n. Stands rs cs n (scratch_at frame 1 ∷ after)) same behind) in
      let fits_answer : (v : ℤ) → takes cs (a - length rs) v ≡ (not (type_at frame.types 1).is_subrange || in_range v (range_at frame.ranges 1))
      = λ v. let same : a - length rs ≡ a + 0 - length rs = omega arith in ap (λ i. takes cs i v) same ∙ behind_here 0 v (omega arith) in
      let ps = places_of places k o in
      let ps_parts = length-append places (counted_from k o) in
      let counted_long = length-counted k o in
      let all_seated : Seated rs cs frame low a 2 ps = Seated-append rs cs frame low k a 2 (2 + inputs) places (counted_from k o) (omega arith) seated first.seated in
      let more : Reached a false z y = Reached-scratch a a (initial_at frame 1) z (omega arith) (omega arith) in
      let reached : Reached k false x y = Reached-both k a false false x z y (omega arith) first.reached more in
      let up : SameUpTo k x z = first.reached.kept in
      let inputs_filled : Filled z t 2 places = Filled-kept rs cs frame x z t low k 2 places (omega arith) up seated filled in
      let others_filled : Filled z t (2 + inputs) (counted_from k o) = Filled-other z frame.start t (2 + inputs) (counted_from k o) (λ p b c. others p b) first.filled in
      let all_filled : Filled z t 2 ps = Filled-append z t 2 (2 + inputs) places (counted_from k o) (omega arith) inputs_filled others_filled in
      let y_filled : Filled y t 2 ps = Filled-kept rs cs frame z y t low a 2 ps (omega arith) more.kept all_seated all_filled in
      let is_answer : held y a ≡ held t 1 = get_or-set_same z a (initial_at frame 1) (pos 0) (omega arith) ∙ sym answer in
      let total : length frame.ranges ≡ 2 + length ps = omega arith in
      let y_long = reached.long in
      let done : CallBegun rs cs frame low k o ps after g t x y = record {
        reached = reached;
        owns = call_owns rs cs frame low a ps total le cells all_seated fits_answer;
        shows = record { long = long; cells = call_cells rs cs frame low a ps total le cells all_seated fits_answer t y y_filled is_answer; fault = reached.fault ∙ fault };
        far = λ p b c. (seat_at rs cs frame low a ps total le cells all_seated fits_answer p b c).above;
        stands = Stands-back rs cs a (scratch_at frame 1 ∷ []) after behind_here;
        room = omega arith;
      } in
      subst (λ w. CallBegun rs cs frame low k o ps after g t x w) (sym (started rs cs frame cells (begins frame inputs fits) 1 a z (omega arith) (omega arith) fits_answer)) done
