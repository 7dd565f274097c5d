-- The turns of a FOR, one at a time, and their values.
use Rattle.std.proofs.Common.{◌≡◌, ℕ, zero, suc, ◌+◌, ◌-◌, ◌^◌, ◌<◌, ◌≤◌, true, false, List, [], ◌∷◌, ◌++◌, ℤ, pos, neg_ℤ, ◌+ℤ◌, ◌*ℤ◌, ◌≤ℤ◌, refl, sym, ap, ◌∙◌, subst, append_assoc, arith}
use Rattle.std.proofs.lemmas.Bool.{and_parts}
use Rattle.std.proofs.lemmas.Int.{ints}
use Rattle.plc_types.specs.declared.range.Range.{Range}
use Rattle.plc_types.specs.Types.{range_of, in_range}
use Rattle.plc_types.proofs.Widths.{least_bound, greatest_bound}
use Rattle.plc_types.proofs.InRange.{bounds, between_in}
use Rattle.program_tree.specs.Tree.{number}
use Rattle.program_tree.specs.declared.scratch.Scratch.{Scratch}
use Rattle.program_tree.specs.Places.{IsTypedPlace}
use Rattle.flat_core.specs.FlatTree.{FlatStatement, set}
use Rattle.flat_form.specs.FlatLists.{repeated, unrolled}
use Rattle.flat_laws.proofs.TurnValues.{stay_from, later-fit}

module _ (unless : List FlatStatement → List FlatStatement) where
  pub unrolled-turn : (count counter control : ℕ) (v more step : ℤ) (m : ℕ) (body : ℕ → List FlatStatement) (k later : ℕ) (out ended : List FlatStatement) → counter < count → more ≡ v +ℤ step → later ≡ k + m
      → ended ≡ out ++ unless (set control (number v) ∷ body k)
      → ended ++ unrolled unless (count - (counter + 1)) control more step m body later ≡ out ++ unrolled unless (count - counter) control v step m body k
  unrolled-turn count counter control v more step m body k later out ended below is_more is_later is_ended =
      let left : count - counter ≡ suc (count - (counter + 1)) = omega arith in
      rw (left, is_more, is_later, is_ended) (simp append_assoc)

  -- behind the last turn
  pub unrolled-end : (count counter control : ℕ) (v step : ℤ) (m : ℕ) (body : ℕ → List FlatStatement) (k : ℕ) (out ended whole : List FlatStatement) → count ≤ counter
      → ended ≡ out ++ unless (set control (number v) ∷ []) → out ++ unrolled unless (count - counter) control v step m body k ≡ whole → ended ≡ whole
  unrolled-end count counter control v step m body k out ended whole done is_ended is_whole =
      let left : count - counter ≡ zero = omega (arith, done) in
      is_ended ∙ (ap (λ (n : ℕ). out ++ unrolled unless n control v step m body k) (sym left) ∙ is_whole)

-- what is put behind, one part after the other
pub turn-listed : (control : ℕ) (v : ℤ) (out begun ended body : List FlatStatement) → begun ≡ out ++ set control (number v) ∷ [] → ended ≡ begun ++ body → ended ≡ out ++ set control (number v) ∷ body
turn-listed control v out begun ended body is_begun is_ended = rw (is_ended, is_begun) (simp append_assoc)

pub turn-guarded : (guard : List FlatStatement → List FlatStatement) (control : ℕ) (v : ℤ) (out none begun turn body ended : List FlatStatement) → none ≡ [] → begun ≡ none ++ set control (number v) ∷ [] → turn ≡ begun ++ body
    → ended ≡ out ++ guard turn → ended ≡ out ++ guard (set control (number v) ∷ body)
turn-guarded guard control v out none begun turn body ended is_none is_begun is_turn is_ended =
    is_ended ∙ ap (λ (ts : List FlatStatement). out ++ guard ts) (is_turn ∙ ap (λ (ts : List FlatStatement). ts ++ body) (is_begun ∙ ap (λ (ts : List FlatStatement). ts ++ set control (number v) ∷ []) is_none))

pub repeated-turn : (count counter : ℕ) (made cs more : List Scratch) → counter < count → more ≡ cs ++ made → more ++ repeated (count - (counter + 1)) made ≡ cs ++ repeated (count - counter) made
repeated-turn count counter made cs more below is_more =
    let left : count - counter ≡ suc (count - (counter + 1)) = omega arith in
    rw (left, is_more) (simp append_assoc)

-- ---- the values of the control variable lie in a range where all do

pub stays-first : (count n : ℕ) (v first step : ℤ) (r : Range) → n ≡ count → v ≡ first → stay_from count first step r ≡ true → stay_from n v step r ≡ true
stays-first count n v first step r is_n is_v h = rw (is_n, is_v) h

pub stays-turn : (count counter : ℕ) (v more step : ℤ) (r : Range) → counter < count → more ≡ v +ℤ step → stay_from (count - counter) v step r ≡ true → stay_from (count - (counter + 1)) more step r ≡ true
stays-turn count counter v more step r below is_more h =
    let left : count - counter ≡ suc (count - (counter + 1)) = omega arith in
    subst (λ (w : ℤ). stay_from (count - (counter + 1)) w step r ≡ true) (sym is_more)
    (later-fit false (count - (counter + 1)) v step r (subst (λ (n : ℕ). stay_from n v step r ≡ true) left h))

-- so the next value is one of a type
pub next-bounds : (p : Scratch) (count counter : ℕ) (v step : ℤ) → IsTypedPlace p → counter < count → stay_from (count - counter) v step p.range ≡ true
    → (neg_ℤ (pos (2 ^ 64)) ≤ℤ (v +ℤ step)) × ((v +ℤ step) ≤ℤ pos (2 ^ 64))
next-bounds p count counter v step typed below h =
    let later = stays-turn count counter v (v +ℤ step) step p.range below refl h in
    let next = (and_parts (in_range (v +ℤ step) p.range) (in_range (v +ℤ step +ℤ pos (count - (counter + 1)) *ℤ step) p.range) later).0 in
    let known = bounds (v +ℤ step) (range_of p.kind) (between_in (range_of p.kind) p.range (v +ℤ step) typed.0 typed.1 next) in
    (omega (arith, ints, known.0, least_bound p.kind), omega (arith, ints, known.1, greatest_bound p.kind))
