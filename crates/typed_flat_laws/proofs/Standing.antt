-- Where the cells of a body stand among the places of a flat program, and what is known of the POUs before it.
use Rattle.std.proofs.Common.{◌≡◌, ℕ, suc, zero, ◌+◌, ◌<◌, ◌≤◌, List, [], ◌∷◌, ◌++◌, length, refl, ap, subst, ◌∙◌, arith}
use Rattle.std.specs.Prelude.{slice_index_or, All}
use Rattle.plc_types.specs.declared.elementary.Elementary.TheVariants as types
use Rattle.program_tree.specs.Tree.{Expressions, no_expressions, expression}
use Rattle.program_tree.specs.declared.scratch.Scratch.{Scratch}
use Rattle.program_tree.specs.OperandTypes.{arity}
use Rattle.program_tree.specs.Places.{whole_cell, place_at, IsTypedPlace}
use Rattle.meaning.specs.Frames.{FrameData, scratch_at, counted_from}
use Rattle.flat_form.specs.Frames.{other_scratch}
use Rattle.flat_form.specs.Owners.{OwnerData}
use Rattle.flat_form.specs.Bodies.{Bodies}
use Rattle.flat_form.specs.Calls.{scratch_in, input_scratch, input_places}
use Rattle.typed_programs.specs.Scopes.{Pous, BodyScope}
use Rattle.typed_flat_laws.proofs.TypedLists.{Typed, StandFrom, stand_back}
use Rattle.typed_flat_laws.proofs.FramePlaces.{Begins}

module _ (ps : List Scratch) where
  -- ---- the cells of a call stand at places, those of its frame from a number on

  abbrev pub PlacesStand : FrameData → ℕ → List ℕ → Type 0
  PlacesStand frame n [] = Unit {0}
  PlacesStand frame n (q ∷ qs) = (place_at ps q ≡ scratch_at frame n) × PlacesStand frame (n + 1) qs

  pub places_both : (frame : FrameData) (n : ℕ) (qs rs : List ℕ) → PlacesStand frame n qs → PlacesStand frame (n + length qs) rs → PlacesStand frame n (qs ++ rs)
  places_both frame n [] rs a b = let e : n + 0 ≡ n = omega arith in subst (λ j. PlacesStand frame j rs) e b
  places_both frame n (q ∷ qs) rs a b =
      let e : n + length (q ∷ qs) ≡ n + 1 + length qs = omega arith in
      (a.0, places_both frame (n + 1) qs rs a.1 (subst (λ j. PlacesStand frame j rs) e b))

  pub places_at : (frame : FrameData) (n : ℕ) (qs : List ℕ) (i : ℕ) → PlacesStand frame n qs → i < length qs → place_at ps (slice_index_or qs i 0) ≡ scratch_at frame (n + i)
  places_at frame n [] i h low = absurd (omega arith)
  places_at frame n (q ∷ qs) zero h low = let e : n ≡ n + 0 = omega arith in h.0 ∙ ap (scratch_at frame) e
  places_at frame n (q ∷ qs) (suc i) h low = let e : n + 1 + i ≡ n + suc i = omega arith in places_at frame (n + 1) qs i h.1 (omega arith) ∙ ap (scratch_at frame) e

  pub others-stand : (frame : FrameData) (n m k : ℕ) → StandFrom ps k (other_scratch frame n m) → PlacesStand frame n (counted_from k m)
  others-stand frame n zero k h = tt
  others-stand frame n (suc m) k h = (h.0, others-stand frame (n + 1) m (k + 1) h.1)

  pub inputs-stand : (bodies : Bodies) (frame : FrameData) (n : ℕ) (es : Expressions) (k : ℕ) → StandFrom ps k (input_scratch bodies frame n es) → PlacesStand frame n (input_places bodies es k)
  inputs-stand bodies frame n no_expressions k h = tt
  inputs-stand bodies frame n (expression e es) k h =
      let back = stand_back ps (scratch_in bodies e) (scratch_at frame n ∷ input_scratch bodies frame (n + 1) es) k h in
      (back.0, inputs-stand bodies frame (n + 1) es (k + length (scratch_in bodies e) + 1) back.1)

  -- ---- POUs whose flat lists are typed

  abbrev pub CallIsTyped : Bodies → ℕ → Type 0
  CallIsTyped bodies f =
      (result : ℕ) (places : List ℕ) (k : ℕ) → 2 + length places ≡ length (bodies.frame f).types → PlacesStand (bodies.frame f) 1 (result ∷ places) → StandFrom ps k (bodies.call_scratch f)
      → Typed ps (bodies.call_list f result places k)

  abbrev pub RunIsTyped : Bodies → (ℕ → List Scratch) → ℕ → Type 0
  RunIsTyped bodies instances block =
      (owner : OwnerData) (base k : ℕ) → ((n : ℕ) → n < length (instances block) → place_at ps (owner (base + n)) ≡ place_at (instances block) n) → StandFrom ps k (bodies.run_scratch block)
      → Typed ps (bodies.run_list owner block base k)

pub inputs-length : (bodies : Bodies) (es : Expressions) (k : ℕ) → length (input_places bodies es k) ≡ arity es
inputs-length bodies no_expressions k = refl
inputs-length bodies (expression e es) k = let more = inputs-length bodies es (k + length (scratch_in bodies e) + 1) in omega arith

pub others-length : (frame : FrameData) (n m : ℕ) → length (other_scratch frame n m) ≡ m
others-length frame n zero = refl
others-length frame n (suc m) = ap suc (others-length frame (n + 1) m)

-- the first so many POUs, of which FUNCTIONs have a frame
pub record AreBefore (ps : List Scratch) (bodies : Bodies) (instances : ℕ → List Scratch) (n : ℕ) : Type 0 where
  pub begins : (f : ℕ) → f < n → 2 ≤ length (bodies.frame f).types → Begins (bodies.frame f)
  pub calls : (f : ℕ) → f < n → 2 ≤ length (bodies.frame f).types → CallIsTyped ps bodies f
  pub runs : (block : ℕ) → block < n → RunIsTyped ps bodies instances block

-- A body whose named cells are an owner's, from a base on, which stand at their places. FAULT stands before them all.
pub record Standing : Type 0 where
  pub places : List Scratch
  pub typed : All IsTypedPlace places
  pub fault : place_at places 0 ≡ whole_cell types.Bool
  pub bodies : Bodies
  pub instances : ℕ → List Scratch
  pub scope : BodyScope
  pub within : scope.settable ≤ length scope.places
  pub before : AreBefore places bodies instances scope.pous
  pub owner : OwnerData
  pub base : ℕ
  pub owns : (n : ℕ) → scope.first ≤ n → n < length scope.places → place_at places (owner (base + n)) ≡ place_at scope.places n

abbrev pub pous_of : Standing → Pous
pous_of s = record { frames = s.bodies.frame; instances = s.instances }
