-- Typed POUs may be run and called, where each POU runs and calls only those before it.
use Rattle.std.proofs.Common.{◌≡◌, ℕ, suc, zero, ◌+◌, ◌<◌, ◌≤◌, Bool, true, false, List, length, refl, sym, ap, subst, arith, rules, tests}
use Rattle.std.specs.Prelude.{◌==◌, slice_index_or, if◌then◌else◌}
use Rattle.plc_types.specs.declared.range.Range.{Range}
use Rattle.program_tree.specs.Tree.{Statements, CalledData, block, function}
use Rattle.program_tree.specs.Leaving.{LeavesNothing}
use Rattle.program_tree.specs.declared.scratch.Scratch.{Scratch}
use Rattle.program_tree.specs.Places.{place_at}
use Rattle.meaning.specs.Calls.{nothing}
use Rattle.meaning.specs.Frames.{FrameData, frame_of, frames_of, function_body, scratch_at}
use Rattle.flat_form.specs.Pous.{block_body}
use Rattle.flat_form.specs.Idle.{is_idle_all, idle_of}
use Rattle.flat_form.specs.WellTyped.{AreTyped, extent_of_all, extents_of, Choice, tested_in, FrameFits, MayRunOf, MayCallOf}
use Rattle.flat_form.proofs.Owed.{owes}
use Rattle.typed_programs.specs.Programs.{frame_places, IsTypedFrame, IsTypedBody, IsTypedPou}
use Rattle.typed_flat_laws.proofs.FramePlaces.{frame-length, frame-place}
use Rattle.typed_flat_laws.proofs.FlatBodies.{same_or_below, pous_in, ArePous}
use Rattle.typed_flat_laws.proofs.OwnCells.{IsCellFor, OwnCells}
use Rattle.typed_flat_laws.proofs.Extents.{parts-extent}
use Rattle.typed_flat_laws.proofs.OwnStatements.{IsInstanceAt, parts-own}

-- ---- the cells of a FUNCTION's call are its frame's

frame-fits : (frame : FrameData) (inputs : ℕ) → IsTypedFrame frame → 2 + inputs ≤ length frame.types → FrameFits frame inputs
frame-fits frame inputs h room = record {
  ranges = h.ranges;
  room = room;
  fault_low = h.fault_low;
  fault_high = h.fault_high;
  no_fault = h.no_fault;
  start_in_range = h.start_in_range;
}

frame-cell : (frame : FrameData) → IsTypedFrame frame → (i : ℕ) → 1 ≤ i → i < length (frame_places frame) → IsCellFor frame.ranges (tested_in frame) (0 + i) (place_at (frame_places frame) i)
frame-cell frame typed i first low =
    let long = typed.ranges in
    let many = frame-length frame in
    let e : i ≡ 0 + i = omega arith in
    let its : IsCellFor frame.ranges (tested_in frame) i (scratch_at frame i) = record { room = omega arith; range = refl; is_subrange = λ is. is } in
    subst (λ j. IsCellFor frame.ranges (tested_in frame) j (place_at (frame_places frame) i)) e (subst (λ (p : Scratch). IsCellFor frame.ranges (tested_in frame) i p) (sym (frame-place frame i (omega arith))) its)

module _ (called : List CalledData) (instances : ℕ → List Scratch) where
  -- ---- what is known of so many POUs

  abbrev pub ExtentsFit : ℕ → Type 0
  ExtentsFit n = (b : ℕ) → b < n → extents_of called n b ≤ length (instances b)

  abbrev pub MayBeCalled : ℕ → Type 0
  MayBeCalled n = (f inputs : ℕ) → f < n → 2 + inputs ≤ length (frames_of called f).types → MayCallOf called n f inputs

  abbrev pub MayBeRun : ℕ → Type 0
  MayBeRun n = (ranges : List Range) (tested : ℕ → Bool) (b base : ℕ) → b < n → IsInstanceAt ranges tested (instances b) base → MayRunOf called ranges tested n b base

  pub record AreOwnBefore (n : ℕ) : Type 0 where
    pub extents : ExtentsFit n
    pub calls : MayBeCalled n
    pub runs : MayBeRun n

  -- ---- bodies

  abbrev AreOwn : ℕ → List Range → (ℕ → Bool) → ℕ → Statements → Type 0
  AreOwn n ranges tested base ts = AreTyped (frames_of called) (MayCallOf called n) (MayRunOf called ranges tested n) (extents_of called n) ranges tested base ts

  -- no EXIT and no RETURN leaves a body
  abbrev BodyIsOwn : ℕ → List Range → (ℕ → Bool) → ℕ → Statements → Type 0
  BodyIsOwn n ranges tested base ts = LeavesNothing ts × AreOwn n ranges tested base ts

  abbrev CallIsOwn : ℕ → Statements → Type 0
  CallIsOwn n ts = AreOwn n (frames_of called n).ranges (tested_in (frames_of called n)) 0 ts

  pub body-own : (n : ℕ) → AreOwnBefore n → (first : ℕ) (cells : List Scratch) (ts : Statements) → IsTypedBody (pous_in called instances) first cells n ts → (ranges : List Range) (tested : ℕ → Bool) (base : ℕ) → 0 < base + first
      → ((i : ℕ) → first ≤ i → i < length cells → IsCellFor ranges tested (base + i) (place_at cells i)) → BodyIsOwn n ranges tested base ts
  body-own n known first cells ts body ranges tested base some owns =
      let w : OwnCells = record {
        frames = frames_of called;
        instances = instances;
        scope = record { first = first; places = cells; settable = body.settable; pous = n };
        within = body.within;
        ranges = ranges;
        tested = tested;
        base = base;
        behind_fault = some;
        owns = owns;
      } in
      (body.leaves_nothing, parts-own w (MayCallOf called n) known.calls (MayRunOf called ranges tested n) (known.runs ranges tested) (extents_of called n) known.extents ts body.leaves_nothing body.typed)

  function-own : (n : ℕ) → AreOwnBefore n → (q : CalledData) → IsTypedPou (pous_in called instances) n q → frames_of called n ≡ frame_of q → (inputs : ℕ) → 2 + inputs ≤ length (frames_of called n).types
      → FrameFits (frames_of called n) inputs × LeavesNothing (function_body q) × CallIsOwn n (function_body q)
  function-own n known (block body) h is inputs room = absurd (omega (arith, ap (λ (frame : FrameData). length frame.types) is))
  function-own n known (function types ranges start body) h is inputs room =
      let frame = frames_of called n in
      let own = body-own n known 1 (frame_places frame) body h.1 frame.ranges (tested_in frame) 0 (omega arith) (frame-cell frame h.0) in
      (frame-fits frame inputs h.0 room, own.0, own.1)

  block-own : (n : ℕ) → AreOwnBefore n → (q : CalledData) → IsTypedPou (pous_in called instances) n q → (ranges : List Range) (tested : ℕ → Bool) (base : ℕ) → IsInstanceAt ranges tested (instances n) base → BodyIsOwn n ranges tested base (block_body q)
  block-own n known (block body) h ranges tested base is =
      let some = is.behind_fault in
      body-own n known 0 (instances n) body h.1 ranges tested base (omega arith) (λ i first low. is.owns i low)
  block-own n known (function types rs start body) h ranges tested base is = ((refl, refl), tt)

  block-extent : (n : ℕ) → AreOwnBefore n → (q : CalledData) → IsTypedPou (pous_in called instances) n q → extent_of_all (extents_of called n) (block_body q) ≤ length (instances n)
  block-extent n known (block body) h =
      parts-extent (pous_in called instances) (record { first = 0; places = instances n; settable = h.1.settable; pous = n }) (extents_of called n) known.extents h.1.within body h.1.typed
  block-extent n known (function types rs start body) h = omega arith

  -- ---- one POU more

  extents-more : (n : ℕ) → ArePous called instances → n < length called → AreOwnBefore n → ExtentsFit (suc n)
  extents-more n are low known b below = by_cases (b == n) refl
    where
      by_cases : (test : Bool) → (b == n) ≡ test → (if test then extent_of_all (extents_of called n) (block_body (slice_index_or called n nothing)) else extents_of called n b) ≤ length (instances b)
      by_cases true e =
          let same : n ≡ b = search (rules, tests) in
          subst (λ j. extent_of_all (extents_of called n) (block_body (slice_index_or called n nothing)) ≤ length (instances j)) same (block-extent n known (slice_index_or called n nothing) (are n low))
      by_cases false e = known.extents b (same_or_below b n below e)

  calls-more : (n : ℕ) → ArePous called instances → n < length called → AreOwnBefore n → MayBeCalled (suc n)
  calls-more n are low known f inputs below room = by_cases (f == n) refl
    where
      by_cases : (test : Bool) → (f == n) ≡ test
          → Choice test (FrameFits (frames_of called n) inputs × LeavesNothing (function_body (slice_index_or called n nothing)) × CallIsOwn n (function_body (slice_index_or called n nothing))) (MayCallOf called n f inputs)
      by_cases true e =
          let same : f ≡ n = search (rules, tests) in
          function-own n known (slice_index_or called n nothing) (are n low) refl inputs (subst (λ j. 2 + inputs ≤ length (frames_of called j).types) same room)
      by_cases false e = known.calls f inputs (same_or_below f n below e) room

  runs-more : (n : ℕ) → ArePous called instances → n < length called → AreOwnBefore n → MayBeRun (suc n)
  runs-more n are low known ranges tested b base below is = by_cases (b == n) refl
    where
      by_cases : (test : Bool) → (b == n) ≡ test
          → Choice test (Choice (is_idle_all (idle_of called n) (block_body (slice_index_or called n nothing))) (Unit {0}) (BodyIsOwn n ranges tested base (block_body (slice_index_or called n nothing)))) (MayRunOf called ranges tested n b base)
      by_cases true e =
          let same : b ≡ n = search (rules, tests) in
          owes (is_idle_all (idle_of called n) (block_body (slice_index_or called n nothing))) (BodyIsOwn n ranges tested base (block_body (slice_index_or called n nothing)))
          (block-own n known (slice_index_or called n nothing) (are n low) ranges tested base (subst (λ j. IsInstanceAt ranges tested (instances j) base) same is))
      by_cases false e = known.runs ranges tested b base (same_or_below b n below e) is

  pub own-before : ArePous called instances → (n : ℕ) → n ≤ length called → AreOwnBefore n
  own-before are zero low = record { extents = λ b below. absurd (omega arith); calls = λ f inputs below room. absurd (omega arith); runs = λ ranges tested b base below is. absurd (omega arith) }
  own-before are (suc n) low =
      let known = own-before are n (omega arith) in
      record { extents = extents-more n are (omega arith) known; calls = calls-more n are (omega arith) known; runs = runs-more n are (omega arith) known }
