-- The cells of a FUNCTION's call: what each of them takes, and the values that they begin with.
use Rattle.std.proofs.Common.{◌≡◌, ℕ, suc, zero, ◌+◌, ◌<◌, true, List, [], ◌∷◌, length, map, refl, ap, subst, ◌∙◌, ℤ, pos, ◌≤ℤ◌, arith, rules, tests}
use Rattle.std.specs.Prelude.{slice_index_or}
use Rattle.std.proofs.lemmas.Int.{ints}
use Rattle.std.proofs.lemmas.List.{length-map}
use Rattle.plc_types.specs.declared.range.Range.{Range}
use Rattle.plc_types.specs.Types.{in_range}
use Rattle.plc_types.proofs.InRange.{in_range_from}
use Rattle.program_tree.specs.declared.scratch.Scratch.{Scratch}
use Rattle.program_tree.specs.Places.{place_at, IsTypedPlace}
use Rattle.meaning.specs.Values.{State}
use Rattle.meaning.specs.Effects.{range_at}
use Rattle.meaning.specs.Frames.{FrameData, scratch_at, initial_at, counted_from}
use Rattle.scan_model.specs.InRange.{IsInRange}
use Rattle.typed_programs.specs.Programs.{frame_places, IsTypedFrame}
use Rattle.typed_flat_laws.proofs.TypedLists.{typed_at}

-- ---- the places of a frame

pub counted-length : (k n : ℕ) → length (counted_from k n) ≡ n
counted-length k zero = refl
counted-length k (suc n) = ap suc (counted-length (k + 1) n)

counted-at : (f : ℕ → Scratch) (k n i : ℕ) → i < n → place_at (map f (counted_from k n)) i ≡ f (k + i)
counted-at f k zero i low = absurd (omega arith)
counted-at f k (suc n) zero low = let e : k ≡ k + 0 = omega arith in ap f e
counted-at f k (suc n) (suc i) low = let e : k + 1 + i ≡ k + suc i = omega arith in counted-at f (k + 1) n i (omega arith) ∙ ap f e

pub frame-length : (frame : FrameData) → length (frame_places frame) ≡ length frame.types
frame-length frame = length-map (counted_from 0 (length frame.types)) (scratch_at frame) ∙ counted-length 0 (length frame.types)

pub frame-place : (frame : FrameData) (i : ℕ) → i < length frame.types → place_at (frame_places frame) i ≡ scratch_at frame i
frame-place frame i low = let e : 0 + i ≡ i = omega arith in counted-at (scratch_at frame) 0 (length frame.types) i low ∙ ap (scratch_at frame) e

pub frame-typed : (frame : FrameData) → IsTypedFrame frame → (i : ℕ) → i < length frame.types → IsTypedPlace (scratch_at frame i)
frame-typed frame typed i low = subst IsTypedPlace (frame-place frame i low) (typed_at (frame_places frame) i typed.places)

-- ---- the values that cells begin with

starts_within : (rs : List Range) (s : State) (i : ℕ) → IsInRange rs s → i < length rs → in_range (slice_index_or s i (pos 0)) (range_at rs i) ≡ true
starts_within [] s i is low = absurd (omega arith)
starts_within (r ∷ rs) [] i is low = absurd is
starts_within (r ∷ rs) (v ∷ s) zero is low = in_range_from v r is.0 is.1
starts_within (r ∷ rs) (v ∷ s) (suc i) is low = starts_within rs s i is.2 (omega arith)

-- Each cell begins in its range, which is one of numbers of its type.
abbrev pub Begins : FrameData → Type 0
Begins frame = (i : ℕ) → i < length frame.types → IsTypedPlace (scratch_at frame i) × (in_range (initial_at frame i) (scratch_at frame i).range ≡ true)

pub frame-begins : (frame : FrameData) → IsTypedFrame frame → Begins frame
frame-begins frame typed i low =
    let long = typed.ranges in
    (frame-typed frame typed i low, starts_within frame.ranges frame.start i typed.start_in_range (omega arith))
