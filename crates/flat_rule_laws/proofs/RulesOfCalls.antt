-- The statements that an expression's calls of FUNCTIONs become keep the rules of flat programs, and what is left of the expression reads
-- what they set.
use Rattle.std.proofs.Common.{◌≡◌, ℕ, zero, suc, ◌+◌, ◌-◌, ◌<◌, ◌≤◌, Bool, true, false, not, ◌||◌, List, [], ◌∷◌, ◌++◌, length, ℤ, pos, refl, ap, subst, ◌∙◌, inl, inr, arith, rules, tests}
use Rattle.std.proofs.Math.Bool.{or-true}
use Rattle.std.specs.Prelude.{slice_index_or, if◌then◌else◌}
use Rattle.std.proofs.lemmas.Int.{ints}
use Rattle.plc_types.specs.declared.range.Range.{Range}
use Rattle.plc_types.specs.Types.{in_range}
use Rattle.program_tree.specs.Tree.{Expression, number, cell, unary, chain, call_standard, call_function, Operands, no_operands, operand, Expressions, no_expressions, expression}
use Rattle.program_tree.specs.declared.scratch.Scratch.{Scratch}
use Rattle.program_tree.specs.OperandTypes.{arity}
use Rattle.meaning.specs.Values.{State}
use Rattle.meaning.specs.Effects.{range_at}
use Rattle.meaning.specs.Frames.{FrameData, type_at, scratch_at, initial_at, counted_from}
use Rattle.scan_model.specs.InRange.{IsInRange}
use Rattle.flat_core.specs.FlatTree.{FlatStatement, set, branch}
use Rattle.flat_core.specs.FlatView.{flats_of}
use Rattle.flat_core.specs.FlatScans.{takes}
use Rattle.flat_core.specs.FlatRules.{has_subrange, Reads, AllRead, EachReads, IsOneOf, IsReadable, set_behind, AreFlatOver}
use Rattle.flat_form.specs.Frames.{input_start, others_behind, other_scratch, other_starts, places_of}
use Rattle.flat_form.specs.Owners.{OwnerData}
use Rattle.flat_form.specs.Bodies.{Bodies}
use Rattle.flat_form.specs.Calls.{rest_scratch, rest_list, scratch_in, operand_scratch, all_scratch, input_scratch, input_places, moved, moved_operands, all_moved, before, operands_before, all_before, inputs_before}
use Rattle.flat_form.specs.WellTyped.{IsTypedValue, AreTypedOperands, AreTypedValues, AreTypedInputs, FrameFits}

-- ---- a scratch cell at a place, and values that begin in their ranges

pub record IsCellAt (n : ℕ) (cs : List Scratch) (t : ℕ) (c : Scratch) : Type 0 where
  pub room : t < n + length cs
  pub is_subrange : has_subrange cs (t - n) ≡ c.is_subrange
  pub takes : (v : ℤ) → takes cs (t - n) v ≡ (not c.is_subrange || in_range v c.range)

abbrev pub Begins : FrameData → Type 0
Begins frame = (p : ℕ) → p < length frame.ranges → in_range (initial_at frame p) (range_at frame.ranges p) ≡ true

starts_within : (rs : List Range) (s : State) (p : ℕ) → IsInRange rs s → p < length rs → in_range (slice_index_or s p (pos 0)) (range_at rs p) ≡ true
starts_within [] s p is h = absurd (omega arith)
starts_within (r ∷ rs) [] p is h = absurd is
starts_within (r ∷ rs) (v ∷ s) zero is h = let low = is.0 in let high = is.1 in search (rules, tests, ints)
starts_within (r ∷ rs) (v ∷ s) (suc p) is h = starts_within rs s p is.2 (omega arith)

-- ---- one list after another

-- the places that are set behind a list
abbrev pub behind : List FlatStatement → List ℕ → List ℕ
behind [] done = done
behind (t ∷ a) done = behind a (set_behind t done)

abbrev pub Within : List ℕ → List ℕ → Type 0
Within done d = (p : ℕ) → IsOneOf done p → IsOneOf d p

set_within : (t : FlatStatement) (done : List ℕ) → Within done (set_behind t done)
set_within (set place e) done p h = inr h
set_within (branch e a b) done p h = h

pub behind-within : (a : List FlatStatement) (done : List ℕ) → Within done (behind a done)
behind-within [] done p h = h
behind-within (t ∷ a) done p h = behind-within a (set_behind t done) p (set_within t done p h)

pub within_back : (a b : List FlatStatement) (done d : List ℕ) → Within (behind (a ++ b) done) d → Within (behind b (behind a done)) d
within_back [] b done d h = h
within_back (t ∷ a) b done d h = within_back a b (set_behind t done) d h

pub within_front : (a b : List FlatStatement) (done d : List ℕ) → Within (behind (a ++ b) done) d → Within (behind a done) d
within_front a b done d h p is = within_back a b done d h p (behind-within b (behind a done) p is)

module _ (n : ℕ) (cs : List Scratch) where
  abbrev pub Keeps : List ℕ → List FlatStatement → Type 0
  Keeps done a = AreFlatOver n cs done (flats_of a)

  pub Keeps-both : (a b : List FlatStatement) (done : List ℕ) → Keeps done a → Keeps (behind a done) b → Keeps done (a ++ b)
  Keeps-both [] b done p q = q
  Keeps-both (t ∷ a) b done p q = (p.0, Keeps-both a b (set_behind t done) p.1 q)

  -- a place that may be read, and is one
  abbrev pub Usable : List ℕ → ℕ → Type 0
  Usable d t = IsReadable n d t × (t < n + length cs)

  abbrev pub AllUsable : List ℕ → List ℕ → Type 0
  AllUsable d [] = Unit {0}
  AllUsable d (p ∷ ps) = Usable d p × AllUsable d ps

  pub readable_later : (done d : List ℕ) → Within done d → (t : ℕ) → IsReadable n done t → IsReadable n d t
  readable_later done d w t (inl h) = inl h
  readable_later done d w t (inr h) = inr (w t h)

  pub usable_at : (d ps : List ℕ) (p : ℕ) → AllUsable d ps → Usable d 0 → Usable d (slice_index_or ps p 0)
  usable_at d [] p h z = z
  usable_at d (q ∷ ps) zero h z = h.0
  usable_at d (q ∷ ps) (suc p) h z = usable_at d ps p h.1 z

  usable_append : (d ps qs : List ℕ) → AllUsable d ps → AllUsable d qs → AllUsable d (ps ++ qs)
  usable_append d [] qs a b = b
  usable_append d (p ∷ ps) qs a b = (a.0, usable_append d ps qs a.1 b)

  pub usable_later : (done d : List ℕ) → Within done d → (ps : List ℕ) → AllUsable done ps → AllUsable d ps
  usable_later done d w [] h = tt
  usable_later done d w (p ∷ ps) h = ((readable_later done d w p h.0.0, h.0.1), usable_later done d w ps h.1)

  -- the cells of an owner may be read
  abbrev pub Owned : List ℕ → List Range → (ℕ → ℕ) → Type 0
  Owned d own place_at = (p : ℕ) → p < length own → Usable d (place_at p)

  pub Owned-later : (done d : List ℕ) (own : List Range) (place_at : ℕ → ℕ) → Within done d → Owned done own place_at → Owned d own place_at
  Owned-later done d own place_at w o p h = let u = o p h in (readable_later done d w (place_at p) u.0, u.1)

  -- scratch cells stand from a place on
  abbrev pub StandAt : ℕ → List Scratch → Type 0
  StandAt k [] = Unit {0}
  StandAt k (c ∷ made) = IsCellAt n cs k c × StandAt (k + 1) made

  pub stand_front : (a b : List Scratch) (k : ℕ) → StandAt k (a ++ b) → StandAt k a
  stand_front [] b k h = tt
  stand_front (c ∷ a) b k h = (h.0, stand_front a b (k + 1) h.1)

  pub stand_back : (a b : List Scratch) (k : ℕ) → StandAt k (a ++ b) → StandAt (k + length a) b
  stand_back [] b k h = let e : k ≡ k + 0 = omega arith in subst (λ (j : ℕ). StandAt j b) e h
  stand_back (c ∷ a) b k h = let e : k + 1 + length a ≡ k + length (c ∷ a) = omega arith in subst (λ (j : ℕ). StandAt j b) e (stand_back a b (k + 1) h.1)

  -- ---- the other variables of a call

  other_length : (frame : FrameData) (place m : ℕ) → length (other_scratch frame place m) ≡ m
  other_length frame place zero = refl
  other_length frame place (suc m) = ap suc (other_length frame (place + 1) m)

  starts_keep : (frame : FrameData) (place m k : ℕ) (done : List ℕ) → Begins frame → place + m ≤ length frame.ranges → StandAt k (other_scratch frame place m) → Keeps done (other_starts frame place m k)
  starts_keep frame place zero k done begins h is = tt
  starts_keep frame place (suc m) k done begins h is =
      let c = is.0 in
      let fits = begins place (omega arith) in
      ((c.room, tt, inr (inr (c.takes (initial_at frame place) ∙ rw fits (or-true (not (type_at frame.types place).is_subrange))))), starts_keep frame (place + 1) m (k + 1) (k ∷ done) begins (omega arith) is.1)

  starts_set : (frame : FrameData) (place m k : ℕ) (done d : List ℕ) → StandAt k (other_scratch frame place m) → Within (behind (other_starts frame place m k) done) d → AllUsable d (counted_from k m)
  starts_set frame place zero k done d is w = tt
  starts_set frame place (suc m) k done d is w =
      let c = is.0 in
      ((inr (w k (behind-within (other_starts frame (place + 1) m (k + 1)) (k ∷ done) k (inl refl))), c.room), starts_set frame (place + 1) m (k + 1) (k ∷ done) d is.1 w)

  -- ---- expressions of an owner, where FUNCTIONs may be called whose lists keep the rules

  abbrev pub CallKeeps : Bodies → ℕ → Type 0
  CallKeeps bodies f = (call_function : ℕ) (places : List ℕ) (k : ℕ) (done : List ℕ) → Usable done call_function → AllUsable done places → StandAt k (bodies.call_scratch f) → Keeps done (bodies.call_list f call_function places k)

  module _ (bodies : Bodies) (MayCall : ℕ → ℕ → Type 0)
      (each_fits : (f inputs : ℕ) → MayCall f inputs → FrameFits (bodies.frame f) inputs) (each_call : (f inputs : ℕ) → MayCall f inputs → CallKeeps bodies f) where
    begins_of : (f inputs : ℕ) → MayCall f inputs → Begins (bodies.frame f)
    begins_of f inputs may p h = starts_within (bodies.frame f).ranges (bodies.frame f).start p (each_fits f inputs may).start_in_range h

    -- behind its inputs
    rest_keeps : (f inputs : ℕ) (places : List ℕ) (k : ℕ) (done : List ℕ) → MayCall f inputs → AllUsable done places → StandAt k (rest_scratch bodies (bodies.frame f) f inputs) → Keeps done (rest_list bodies (bodies.frame f) f inputs places k)
    rest_keeps f inputs places k done may us is =
        let fits = each_fits f inputs may in
        let frame = bodies.frame f in
        let others = others_behind frame inputs in
        let ranges = fits.ranges in
        let room = fits.room in
        let made = other_scratch frame (2 + inputs) others in
        let front = stand_front made (scratch_at frame 1 ∷ bodies.call_scratch f) k is in
        let back = stand_back made (scratch_at frame 1 ∷ bodies.call_scratch f) k is in
        let back : StandAt (k + others) (scratch_at frame 1 ∷ bodies.call_scratch f) = subst (λ (j : ℕ). StandAt (k + j) (scratch_at frame 1 ∷ bodies.call_scratch f)) (other_length frame (2 + inputs) others) back in
        let starts = other_starts frame (2 + inputs) others k in
        let d = (k + others) ∷ behind starts done in
        let c = back.0 in
        let in_its : in_range (initial_at frame 1) (range_at frame.ranges 1) ≡ true = begins_of f inputs may 1 (omega arith) in
        let later = λ (p : ℕ) (h : IsOneOf done p). behind-within starts done p h in
        Keeps-both starts _ done
        (starts_keep frame (2 + inputs) others k done (begins_of f inputs may) (omega arith) front) (
          (c.room, tt, inr (inr (c.takes (initial_at frame 1) ∙ rw in_its (or-true (not (type_at frame.types 1).is_subrange))))),
          each_call f inputs may (k + others) (places_of places k others) (k + others + 1) d (inr (inl refl), c.room)
              (usable_append d places (counted_from k others) (usable_later done d (λ p h. inr (later p h)) places us) (starts_set frame (2 + inputs) others k done d front (λ p h. inr h)))
              back.1,
        )

    rest_set : (f inputs : ℕ) (places : List ℕ) (k : ℕ) (done d : List ℕ) → Within (behind (rest_list bodies (bodies.frame f) f inputs places k) done) d → IsOneOf d (k + others_behind (bodies.frame f) inputs)
    rest_set f inputs places k done d w =
        let t = k + others_behind (bodies.frame f) inputs in
        let starts = other_starts (bodies.frame f) (2 + inputs) (others_behind (bodies.frame f) inputs) k in
        let body = bodies.call_list f t (places_of places k (others_behind (bodies.frame f) inputs)) (t + 1) in
        within_back starts (set t (number (initial_at (bodies.frame f) 1)) ∷ body) done d w t (behind-within body (t ∷ behind starts done) t (inl refl))

    module _ (owner : OwnerData) (own : List Range) (base : ℕ) where
      abbrev Typed : Expression → Type 0
      Typed e = IsTypedValue bodies.frame MayCall own base e

      abbrev TypedOperands : Operands → Type 0
      TypedOperands os = AreTypedOperands bodies.frame MayCall own base os

      abbrev TypedValues : Expressions → Type 0
      TypedValues es = AreTypedValues bodies.frame MayCall own base es

      abbrev TypedInputs : FrameData → ℕ → Expressions → Type 0
      TypedInputs frame place es = AreTypedInputs bodies.frame MayCall own base frame place es

      -- what is left of an expression reads what is set behind the statements of its calls
      mutual
        pub moved_reads : (e : Expression) (k : ℕ) (done d : List ℕ) → Typed e → Owned d own owner → Within (behind (before bodies owner base e k) done) d → Reads (IsReadable n d) (moved bodies owner base e k)
        moved_reads (number v) k done d t o w = tt
        moved_reads (cell place) k done d t o w = (o (base + place) t.1).0
        moved_reads (unary _ _ e) k done d t o w = moved_reads e k done d t o w
        moved_reads (chain e os) k done d t o w =
            let j = k + length (scratch_in bodies e) in (
              moved_reads e k done d t.0 o (within_front (before bodies owner base e k) (operands_before bodies owner base os j) done d w),
              operands_read os j (behind (before bodies owner base e k) done) d t.1 o (within_back (before bodies owner base e k) (operands_before bodies owner base os j) done d w),
            )
        moved_reads (call_standard f _ es) k done d t o w = all_read es k done d t o w
        moved_reads (call_function f es) k done d t o w =
            let first = inputs_before bodies owner base (bodies.frame f) 2 es k in
            let j = k + length (input_scratch bodies (bodies.frame f) 2 es) in
            inr (rest_set f (arity es) (input_places bodies es k) j (behind first done) d (within_back first (rest_list bodies (bodies.frame f) f (arity es) (input_places bodies es k) j) done d w))

        operands_read : (os : Operands) (k : ℕ) (done d : List ℕ) → TypedOperands os → Owned d own owner → Within (behind (operands_before bodies owner base os k) done) d → AllRead (IsReadable n d) (moved_operands bodies owner base os k)
        operands_read no_operands k done d t o w = tt
        operands_read (operand _ _ e os) k done d t o w =
            let j = k + length (scratch_in bodies e) in (
              moved_reads e k done d t.0 o (within_front (before bodies owner base e k) (operands_before bodies owner base os j) done d w),
              operands_read os j (behind (before bodies owner base e k) done) d t.1 o (within_back (before bodies owner base e k) (operands_before bodies owner base os j) done d w),
            )

        all_read : (es : Expressions) (k : ℕ) (done d : List ℕ) → TypedValues es → Owned d own owner → Within (behind (all_before bodies owner base es k) done) d → EachReads (IsReadable n d) (all_moved bodies owner base es k)
        all_read no_expressions k done d t o w = tt
        all_read (expression e es) k done d t o w =
            let j = k + length (scratch_in bodies e) in (
              moved_reads e k done d t.0 o (within_front (before bodies owner base e k) (all_before bodies owner base es j) done d w),
              all_read es j (behind (before bodies owner base e k) done) d t.1 o (within_back (before bodies owner base e k) (all_before bodies owner base es j) done d w),
            )

      -- the cells of the inputs are set behind them
      inputs_set : (frame : FrameData) (place : ℕ) (es : Expressions) (k : ℕ) (done d : List ℕ) → StandAt k (input_scratch bodies frame place es) → Within (behind (inputs_before bodies owner base frame place es k) done) d → AllUsable d (input_places bodies es k)
      inputs_set frame place no_expressions k done d is w = tt
      inputs_set frame place (expression e es) k done d is w =
          let t = k + length (scratch_in bodies e) in
          let back = stand_back (scratch_in bodies e) (scratch_at frame place ∷ input_scratch bodies frame (place + 1) es) k is in
          let more = inputs_before bodies owner base frame (place + 1) es (t + 1) in
          let ending = set t (moved bodies owner base e k) ∷ more in
          let start = input_start frame place t in
          let d1 = behind (before bodies owner base e k) done in
          let v = within_back start ending d1 d (within_back (before bodies owner base e k) (start ++ ending) done d w) in
          ((inr (v t (behind-within more (t ∷ behind start d1) t (inl refl))), back.0.room), inputs_set frame (place + 1) es (t + 1) (t ∷ behind start d1) d back.1 v)

      -- the assignments to an input's cell: that of its start, where it is of a subrange, and that of its value
      input_keeps : (frame : FrameData) (place t : ℕ) (e : Expression) (rest : List FlatStatement) (done : List ℕ) → IsCellAt n cs t (scratch_at frame place) → in_range (initial_at frame place) (range_at frame.ranges place) ≡ true
          → ((d : List ℕ) → Within done d → Reads (IsReadable n d) e) → ((d : List ℕ) → Within done d → Keeps d rest) → Keeps done (input_start frame place t ++ set t e ∷ rest)
      input_keeps frame place t e rest done c fits reads more = by_test (type_at frame.types place).is_subrange refl
        where
          by_test : (test : Bool) → (type_at frame.types place).is_subrange ≡ test → Keeps done ((if test then set t (number (initial_at frame place)) ∷ [] else []) ++ set t e ∷ rest)
          by_test true same = (
            (c.room, tt, inr (inr (c.takes (initial_at frame place) ∙ rw fits (or-true (not (type_at frame.types place).is_subrange))))),
            ((c.room, reads (t ∷ done) (λ p h. inr h), inl (inr (inl refl))), more (t ∷ t ∷ done) (λ p h. inr (inr h))),
          )
          by_test false same = ((c.room, reads done (λ p h. h), inr (inl (c.is_subrange ∙ same))), more (t ∷ done) (λ p h. inr h))

      mutual
        pub before_keeps : (e : Expression) (k : ℕ) (done : List ℕ) → Typed e → Owned done own owner → StandAt k (scratch_in bodies e) → Keeps done (before bodies owner base e k)
        before_keeps (number v) k done t o is = tt
        before_keeps (cell place) k done t o is = tt
        before_keeps (unary _ _ e) k done t o is = before_keeps e k done t o is
        before_keeps (chain e os) k done t o is =
            let first = before bodies owner base e k in
            Keeps-both first _ done (before_keeps e k done t.0 o (stand_front (scratch_in bodies e) (operand_scratch bodies os) k is))
            (operands_keep os (k + length (scratch_in bodies e)) (behind first done) t.1 (Owned-later done (behind first done) own owner (behind-within first done) o) (stand_back (scratch_in bodies e) (operand_scratch bodies os) k is))
        before_keeps (call_standard f _ es) k done t o is = all_keep es k done t o is
        before_keeps (call_function f es) k done t o is =
            let frame = bodies.frame f in
            let fits = each_fits f (arity es) t.0 in
            let room = fits.room in
            let ranges = fits.ranges in
            let inputs = input_scratch bodies frame 2 es in
            let rest = rest_scratch bodies frame f (arity es) in
            let first = inputs_before bodies owner base frame 2 es k in
            let front = stand_front inputs rest k is in
            Keeps-both first _ done (inputs_keep frame (begins_of f (arity es) t.0) 2 es k done t.1 (omega arith) o front)
            (rest_keeps f (arity es) (input_places bodies es k) (k + length inputs) (behind first done) t.0 (inputs_set frame 2 es k done (behind first done) front (λ p h. h)) (stand_back inputs rest k is))

        operands_keep : (os : Operands) (k : ℕ) (done : List ℕ) → TypedOperands os → Owned done own owner → StandAt k (operand_scratch bodies os) → Keeps done (operands_before bodies owner base os k)
        operands_keep no_operands k done t o is = tt
        operands_keep (operand _ _ e os) k done t o is =
            let first = before bodies owner base e k in
            Keeps-both first _ done (before_keeps e k done t.0 o (stand_front (scratch_in bodies e) (operand_scratch bodies os) k is))
            (operands_keep os (k + length (scratch_in bodies e)) (behind first done) t.1 (Owned-later done (behind first done) own owner (behind-within first done) o) (stand_back (scratch_in bodies e) (operand_scratch bodies os) k is))

        all_keep : (es : Expressions) (k : ℕ) (done : List ℕ) → TypedValues es → Owned done own owner → StandAt k (all_scratch bodies es) → Keeps done (all_before bodies owner base es k)
        all_keep no_expressions k done t o is = tt
        all_keep (expression e es) k done t o is =
            let first = before bodies owner base e k in
            Keeps-both first _ done (before_keeps e k done t.0 o (stand_front (scratch_in bodies e) (all_scratch bodies es) k is))
            (all_keep es (k + length (scratch_in bodies e)) (behind first done) t.1 (Owned-later done (behind first done) own owner (behind-within first done) o) (stand_back (scratch_in bodies e) (all_scratch bodies es) k is))

        inputs_keep : (frame : FrameData) → Begins frame → (place : ℕ) (es : Expressions) (k : ℕ) (done : List ℕ) → TypedInputs frame place es → place + arity es ≤ length frame.ranges → Owned done own owner → StandAt k (input_scratch bodies frame place es)
            → Keeps done (inputs_before bodies owner base frame place es k)
        inputs_keep frame begins place no_expressions k done t h o is = tt
        inputs_keep frame begins place (expression e es) k done t h o is =
            let first = before bodies owner base e k in
            let j = k + length (scratch_in bodies e) in
            let mine = scratch_in bodies e in
            let others = scratch_at frame place ∷ input_scratch bodies frame (place + 1) es in
            let back = stand_back mine others k is in
            let later = λ (d : List ℕ) (w : Within (behind first done) d). Owned-later done d own owner (λ p q. w p (behind-within first done p q)) o in
            Keeps-both first _ done (before_keeps e k done t.0 o (stand_front mine others k is))
            (input_keeps frame place j (moved bodies owner base e k) (inputs_before bodies owner base frame (place + 1) es (j + 1)) (behind first done) back.0 (begins place (omega arith))
            (λ d w. moved_reads e k done d t.0 (later d w) w) (λ d w. inputs_keep frame begins (place + 1) es (j + 1) d t.2 (omega arith) (later d w) back.1))
