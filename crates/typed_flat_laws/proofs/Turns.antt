-- The turns of a FOR, one behind the other, are typed: each value of the control variable lies in the range of its place.
use Rattle.std.proofs.Common.{◌≡◌, ℕ, suc, zero, ◌+◌, Bool, true, false, List, [], ◌∷◌, length, ℤ, pos, ◌+ℤ◌, ◌*ℤ◌}
use Rattle.std.specs.Prelude.{All}
use Rattle.std.proofs.lemmas.Bool.{and_parts, or_right}
use Rattle.plc_types.specs.Types.{range_of, in_range}
use Rattle.plc_types.proofs.InRange.{between_in}
use Rattle.program_tree.specs.Tree.{number}
use Rattle.program_tree.specs.declared.scratch.Scratch.{Scratch}
use Rattle.program_tree.specs.Places.{place_at, IsTypedPlace}
use Rattle.flat_core.specs.FlatTree.{FlatStatement, set}
use Rattle.flat_form.specs.Unless.{Flags, unless_left}
use Rattle.flat_form.specs.FlatLists.{repeated, unrolled}
use Rattle.flat_laws.proofs.TurnValues.{stay_from, later-fit}
use Rattle.node_core.specs.TypedFlats.{Takes}
use Rattle.typed_flat_laws.proofs.TypedLists.{typed_at, Typed, typed_both, StandFrom, stand_front, stand_back}
use Rattle.typed_flat_laws.proofs.Leaving.{AreMarks, unless_left-typed}

module _ (ps : List Scratch) (typed : All IsTypedPlace ps) where
  -- a place takes a number of its range
  pub number_taken : (place : ℕ) (v : ℤ) → in_range v (place_at ps place).range ≡ true → Takes ps (place_at ps place) (number v)
  number_taken place v h =
      let p = place_at ps place in
      let its = typed_at ps place typed in
      (between_in (range_of p.kind) p.range v its.0 its.1 h, or_right p.is_subrange (in_range v p.range) h)

  pub turns-typed : (exits returns : Bool) (flags : Flags) → AreMarks ps flags → (control : ℕ) (n : ℕ) (v step : ℤ) (made : List Scratch) (body : ℕ → List FlatStatement) → stay_from n v step (place_at ps control).range ≡ true
      → ((k : ℕ) → StandFrom ps k made → Typed ps (body k)) → (k : ℕ) → StandFrom ps k (repeated n made) → Typed ps (unrolled (unless_left exits returns flags) n control v step (length made) body k)
  turns-typed exits returns flags m control zero v step made body stays each k stands =
      unless_left-typed ps exits returns flags (set control (number v) ∷ []) m
      (number_taken control v (and_parts (in_range v (place_at ps control).range) (in_range (v +ℤ pos 0 *ℤ step) (place_at ps control).range) stays).0, tt)
  turns-typed exits returns flags m control (suc n) v step made body stays each k stands =
      let r = (place_at ps control).range in
      let turn = set control (number v) ∷ body k in
      typed_both ps (unless_left exits returns flags turn) _
      (unless_left-typed ps exits returns flags turn m (number_taken control v (and_parts (in_range v r) (in_range (v +ℤ pos (suc n) *ℤ step) r) stays).0, each k (stand_front ps made (repeated n made) k stands)))
      (turns-typed exits returns flags m control n (v +ℤ step) step made body (later-fit false n v step r stays) each (k + length made) (stand_back ps made (repeated n made) k stands))
