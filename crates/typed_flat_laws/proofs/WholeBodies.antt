-- The scratch cells of typed POUs take numbers of their types, where each POU runs and calls only those before it.
use Rattle.std.proofs.Common.{◌≡◌, ℕ, suc, zero, ◌<◌, ◌≤◌, Bool, true, false, List, length, refl, sym, ap, subst, arith}
use Rattle.std.specs.Prelude.{◌==◌, slice_index_or, if◌then◌else◌}
use Rattle.std.proofs.lemmas.List.Elements.{All-nil}
use Rattle.program_tree.specs.Tree.{Statements, CalledData, block, function}
use Rattle.program_tree.specs.declared.scratch.Scratch.{Scratch}
use Rattle.program_tree.specs.Places.{IsTypedPlace}
use Rattle.meaning.specs.Calls.{nothing}
use Rattle.meaning.specs.Frames.{FrameData, frame_of, frames_of, function_body}
use Rattle.flat_form.specs.FlatLists.{scratch_of_all}
use Rattle.flat_form.specs.Pous.{block_body, bodies_of}
use Rattle.flat_form.proofs.FrameLemmas.{frames-here}
use Rattle.typed_programs.specs.Statements.{AreTypedParts}
use Rattle.typed_programs.specs.Programs.{frame_places, IsTypedBody, IsTypedPou}
use Rattle.typed_flat_laws.proofs.FramePlaces.{frame-typed}
use Rattle.typed_flat_laws.proofs.FlatBodies.{same_or_below, pous_in, ArePous}
use Rattle.typed_flat_laws.proofs.ScratchPlaces.{Whole, FrameIsWhole, AreWholeBefore, parts-whole}

module _ (called : List CalledData) (instances : ℕ → List Scratch) where
  abbrev Known : ℕ → Type 0
  Known n = AreWholeBefore (bodies_of called n) n

  pub body-whole : (n : ℕ) → Known n → (first : ℕ) (cells : List Scratch) (ts : Statements) → IsTypedBody (pous_in called instances) first cells n ts → Whole (scratch_of_all (bodies_of called n) ts)
  body-whole n known first cells ts body =
      parts-whole (bodies_of called n) instances (record { first = first; places = cells; settable = body.settable; pous = n }) known ts
      (subst (λ (frames : ℕ → FrameData). AreTypedParts (record { frames = frames; instances = instances }) (record { first = first; places = cells; settable = body.settable; pous = n }) ts) (sym (frames-here called n)) body.typed)

  function-whole : (n : ℕ) → Known n → (q : CalledData) → IsTypedPou (pous_in called instances) n q → Whole (scratch_of_all (bodies_of called n) (function_body q))
  function-whole n known (block body) h = All-nil IsTypedPlace
  function-whole n known (function types ranges start body) h = body-whole n known 1 (frame_places (frames_of called n)) body h.1

  block-whole : (n : ℕ) → Known n → (q : CalledData) → IsTypedPou (pous_in called instances) n q → Whole (scratch_of_all (bodies_of called n) (block_body q))
  block-whole n known (block body) h = body-whole n known 0 (instances n) body h.1
  block-whole n known (function types ranges start body) h = All-nil IsTypedPlace

  frame-whole : (n : ℕ) (q : CalledData) → IsTypedPou (pous_in called instances) n q → frames_of called n ≡ frame_of q → 2 ≤ length (frames_of called n).types → FrameIsWhole (frames_of called n)
  frame-whole n (block body) h is some = absurd (omega (arith, ap (λ (frame : FrameData). length frame.types) is))
  frame-whole n (function types ranges start body) h is some = frame-typed (frames_of called n) h.0

  calls-whole : (n : ℕ) → ArePous called instances → n < length called → Known n → (f : ℕ) → f < suc n → Whole ((bodies_of called (suc n)).call_scratch f)
  calls-whole n are low known f below = by_cases (f == n) refl
    where
      by_cases : (test : Bool) → (f == n) ≡ test → Whole (if test then scratch_of_all (bodies_of called n) (function_body (slice_index_or called n nothing)) else (bodies_of called n).call_scratch f)
      by_cases true e = function-whole n known (slice_index_or called n nothing) (are n low)
      by_cases false e = known.calls f (same_or_below f n below e)

  runs-whole : (n : ℕ) → ArePous called instances → n < length called → Known n → (b : ℕ) → b < suc n → Whole ((bodies_of called (suc n)).run_scratch b)
  runs-whole n are low known b below = by_cases (b == n) refl
    where
      by_cases : (test : Bool) → (b == n) ≡ test → Whole (if test then scratch_of_all (bodies_of called n) (block_body (slice_index_or called n nothing)) else (bodies_of called n).run_scratch b)
      by_cases true e = block-whole n known (slice_index_or called n nothing) (are n low)
      by_cases false e = known.runs b (same_or_below b n below e)

  pub whole-before : ArePous called instances → (n : ℕ) → n ≤ length called → Known n
  whole-before are zero low = record { frames = λ f below some. absurd (omega arith); calls = λ f below. absurd (omega arith); runs = λ b below. absurd (omega arith) }
  whole-before are (suc n) low =
      let known = whole-before are n (omega arith) in
      record {
        frames = λ f below some.
            let here = ap (λ (g : ℕ → FrameData). g f) (frames-here called (suc n)) in
            subst FrameIsWhole (sym here) (frame-whole f (slice_index_or called f nothing) (are f (omega arith)) refl (subst (λ (g : FrameData). 2 ≤ length g.types) here some));
        calls = calls-whole n are (omega arith) known;
        runs = runs-whole n are (omega arith) known;
      }
