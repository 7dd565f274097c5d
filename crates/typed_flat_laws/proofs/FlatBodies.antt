-- The bodies of typed POUs become typed lists, where each POU runs and calls only those before it.
use Rattle.std.proofs.Common.{◌≡◌, ℕ, suc, zero, ◌+◌, ◌<◌, ◌≤◌, Bool, true, false, List, ◌∷◌, length, refl, sym, ap, subst, ◌∙◌, arith, rules, tests}
use Rattle.std.specs.Prelude.{◌==◌, slice_index_or, All, if◌then◌else◌}
use Rattle.plc_types.specs.declared.elementary.Elementary.TheVariants as types
use Rattle.program_tree.specs.Tree.{Statement, assign, call_block, choice, cases, repeat, chart, exit, return, own_body, Statements, no_statements, statement, CalledData, block, function}
use Rattle.program_tree.specs.Leaving.{can_exit, can_return}
use Rattle.program_tree.specs.declared.scratch.Scratch.{Scratch}
use Rattle.program_tree.specs.Places.{whole_cell, place_at, IsTypedPlace}
use Rattle.meaning.specs.Calls.{nothing}
use Rattle.meaning.specs.Frames.{FrameData, frame_of, frames_of, function_body, scratch_at}
use Rattle.flat_form.specs.Owners.{OwnerData, call_owner}
use Rattle.flat_form.specs.Unless.{Flags, without_flags}
use Rattle.flat_form.specs.FlatLists.{scratch_of, scratch_of_all, flat_of, flat_of_all}
use Rattle.flat_form.specs.Pous.{block_body, bodies_of}
use Rattle.flat_form.proofs.FrameLemmas.{frames-here}
use Rattle.typed_programs.specs.Scopes.{Pous}
use Rattle.typed_programs.specs.Statements.{IsTypedPart, AreTypedParts}
use Rattle.typed_programs.specs.Programs.{frame_places, IsTypedBody, IsTypedPou}
use Rattle.typed_flat_laws.proofs.TypedLists.{Typed, typed_both, StandFrom, stand_front, stand_back}
use Rattle.typed_flat_laws.proofs.FramePlaces.{Begins, frame-length, frame-place, frame-begins}
use Rattle.typed_flat_laws.proofs.Standing.{PlacesStand, places_at, CallIsTyped, RunIsTyped, AreBefore, Standing, pous_of}
use Rattle.typed_flat_laws.proofs.Moved.{Stand}
use Rattle.typed_flat_laws.proofs.CallLists.{Lists}
use Rattle.typed_flat_laws.proofs.Leaving.{AreMarks, without_flags-are, unless_left-typed}
use Rattle.typed_flat_laws.proofs.StatementLists.{statement-typed}
use Rattle.typed_flat_laws.proofs.ChartLists.{chart-typed}

-- ---- bodies of statements and charts

module _ (s : Standing) where
  part-typed : (flags : Flags) (t : Statement) (k : ℕ) → IsTypedPart (pous_of s) s.scope t → AreMarks s.places flags → Stand s k (scratch_of s.bodies t) → Lists s (flat_of s.bodies s.owner s.base flags t k)
  part-typed flags (assign target e) k h m stands = statement-typed s flags (assign target e) k h m stands
  part-typed flags (call_block b offset) k h m stands = statement-typed s flags (call_block b offset) k h m stands
  part-typed flags (choice arms other) k h m stands = statement-typed s flags (choice arms other) k h m stands
  part-typed flags (cases kind e es other) k h m stands = statement-typed s flags (cases kind e es other) k h m stands
  part-typed flags (repeat turns body) k h m stands = statement-typed s flags (repeat turns body) k h m stands
  part-typed flags (chart steps all ts) k h m stands = chart-typed s flags steps all ts k h stands
  part-typed flags exit k h m stands = statement-typed s flags exit k h m stands
  part-typed flags return k h m stands = statement-typed s flags return k h m stands
  part-typed flags (own_body ss) k h m stands = statement-typed s flags (own_body ss) k h m stands

  pub parts-typed : (flags : Flags) (ts : Statements) (k : ℕ) → AreTypedParts (pous_of s) s.scope ts → AreMarks s.places flags → Stand s k (scratch_of_all s.bodies ts) → Lists s (flat_of_all s.bodies s.owner s.base flags ts k)
  parts-typed flags no_statements k h m stands = tt
  parts-typed flags (statement t ts) k h m stands =
      let made = scratch_of s.bodies t in
      let rest = scratch_of_all s.bodies ts in
      let others = flat_of_all s.bodies s.owner s.base flags ts (k + length made) in
      typed_both s.places (flat_of s.bodies s.owner s.base flags t k) _ (part-typed flags t k h.0 m (stand_front s.places made rest k stands))
      (unless_left-typed s.places (can_exit t) (can_return t) flags others m (parts-typed flags ts (k + length made) h.1 m (stand_back s.places made rest k stands)))

-- ---- POUs

pub same_or_below : (i n : ℕ) → i < suc n → (i == n) ≡ false → i < n
same_or_below i n low other = by_order (omega arith) other
  where
    by_order : i ≤ n → (i == n) ≡ false → i < n
    by_order most other = search (rules, tests)

module _ (called : List CalledData) (instances : ℕ → List Scratch) where
  abbrev pub pous_in : Pous
  pous_in = record { frames = frames_of called; instances = instances }

  abbrev pub ArePous : Type 0
  ArePous = (n : ℕ) → n < length called → IsTypedPou pous_in n (slice_index_or called n nothing)

module _ (ps : List Scratch) (typed : All IsTypedPlace ps) (fault : place_at ps 0 ≡ whole_cell types.Bool) (called : List CalledData) (instances : ℕ → List Scratch) where
  abbrev pous : Pous
  pous = pous_in called instances

  abbrev Known : ℕ → Type 0
  Known n = AreBefore ps (bodies_of called n) instances n

  -- the body of a POU behind so many others, over the cells of an owner
  pub body-typed : (n : ℕ) → Known n → (first : ℕ) (cells : List Scratch) (ts : Statements) → IsTypedBody pous first cells n ts → (owner : OwnerData) (base : ℕ)
      → ((i : ℕ) → first ≤ i → i < length cells → place_at ps (owner (base + i)) ≡ place_at cells i)
      → (k : ℕ) → StandFrom ps k (scratch_of_all (bodies_of called n) ts) → Typed ps (flat_of_all (bodies_of called n) owner base without_flags ts k)
  body-typed n known first cells ts body owner base owns k stands =
      let s : Standing = record {
        places = ps;
        typed = typed;
        fault = fault;
        bodies = bodies_of called n;
        instances = instances;
        scope = record { first = first; places = cells; settable = body.settable; pous = n };
        within = body.within;
        before = known;
        owner = owner;
        base = base;
        owns = owns;
      } in
      parts-typed s without_flags ts k (subst (λ (frames : ℕ → FrameData). AreTypedParts (record { frames = frames; instances = instances }) s.scope ts) (sym (frames-here called n)) body.typed) (without_flags-are ps fault) stands

  -- ---- a FUNCTION that is called

  frame-owned : (frame : FrameData) (result : ℕ) (places : List ℕ) → 2 + length places ≡ length frame.types → PlacesStand ps frame 1 (result ∷ places)
      → (i : ℕ) → 1 ≤ i → i < length (frame_places frame) → place_at ps (call_owner result places (0 + i)) ≡ place_at (frame_places frame) i
  frame-owned frame result places many stand zero some low = absurd (omega arith)
  frame-owned frame result places many stand (suc i) some low =
      let long = frame-length frame in
      let e : 0 + suc i ≡ suc i = omega arith in
      let f : 1 + i ≡ suc i = omega arith in
      ap (λ j. place_at ps (call_owner result places j)) e ∙ places_at ps frame 1 (result ∷ places) i stand (omega arith) ∙ ap (scratch_at frame) f ∙ sym (frame-place frame (suc i) (omega arith))

  function-typed : (n : ℕ) → Known n → (q : CalledData) → IsTypedPou pous n q → (result : ℕ) (places : List ℕ) (k : ℕ) → 2 + length places ≡ length (frames_of called n).types → PlacesStand ps (frames_of called n) 1 (result ∷ places)
      → StandFrom ps k (scratch_of_all (bodies_of called n) (function_body q)) → Typed ps (flat_of_all (bodies_of called n) (call_owner result places) 0 without_flags (function_body q) k)
  function-typed n known (block body) h result places k many stand stands = tt
  function-typed n known (function types ranges start body) h result places k many stand stands =
      body-typed n known 1 (frame_places (frames_of called n)) body h.1 (call_owner result places) 0 (frame-owned (frames_of called n) result places many stand) k stands

  -- ---- a FUNCTION_BLOCK that is run

  block-typed : (n : ℕ) → Known n → (q : CalledData) → IsTypedPou pous n q → (owner : OwnerData) (base k : ℕ) → ((i : ℕ) → i < length (instances n) → place_at ps (owner (base + i)) ≡ place_at (instances n) i)
      → StandFrom ps k (scratch_of_all (bodies_of called n) (block_body q)) → Typed ps (flat_of_all (bodies_of called n) owner base without_flags (block_body q) k)
  block-typed n known (block body) h owner base k owns stands = body-typed n known 0 (instances n) body h.1 owner base (λ i first low. owns i low) k stands
  block-typed n known (function types ranges start body) h owner base k owns stands = tt

  -- ---- one POU more

  function-begins : (n : ℕ) (q : CalledData) → IsTypedPou pous n q → frames_of called n ≡ frame_of q → 2 ≤ length (frames_of called n).types → Begins (frames_of called n)
  function-begins n (block body) h is some = absurd (omega (arith, ap (λ (frame : FrameData). length frame.types) is))
  function-begins n (function types ranges start body) h is some = frame-begins (frames_of called n) h.0

  calls-more : (n : ℕ) → ArePous called instances → n < length called → Known n → (f : ℕ) → f < suc n → 2 ≤ length ((bodies_of called (suc n)).frame f).types → CallIsTyped ps (bodies_of called (suc n)) f
  calls-more n are low known f below some result places k many stand stands = by_cases (f == n) refl stands
    where
      by_cases : (test : Bool) → (f == n) ≡ test
          → StandFrom ps k (if test then scratch_of_all (bodies_of called n) (function_body (slice_index_or called n nothing)) else (bodies_of called n).call_scratch f)
          → Typed ps (if test then flat_of_all (bodies_of called n) (call_owner result places) 0 without_flags (function_body (slice_index_or called n nothing)) k else (bodies_of called n).call_list f result places k)
      by_cases true e h =
          let same : f ≡ n = search (rules, tests) in
          let frame : (bodies_of called n).frame f ≡ frames_of called n = ap (λ (g : ℕ → FrameData). g f) (frames-here called n) ∙ ap (frames_of called) same in
          function-typed n known (slice_index_or called n nothing) (are n low) result places k (many ∙ ap (λ (g : FrameData). length g.types) frame) (subst (λ (g : FrameData). PlacesStand ps g 1 (result ∷ places)) frame stand) h
      by_cases false e h = known.calls f (same_or_below f n below e) some result places k many stand h

  runs-more : (n : ℕ) → ArePous called instances → n < length called → Known n → (b : ℕ) → b < suc n → RunIsTyped ps (bodies_of called (suc n)) instances b
  runs-more n are low known b below owner base k owns stands = by_cases (b == n) refl stands
    where
      by_cases : (test : Bool) → (b == n) ≡ test
          → StandFrom ps k (if test then scratch_of_all (bodies_of called n) (block_body (slice_index_or called n nothing)) else (bodies_of called n).run_scratch b)
          → Typed ps (if test then flat_of_all (bodies_of called n) owner base without_flags (block_body (slice_index_or called n nothing)) k else (bodies_of called n).run_list owner b base k)
      by_cases true e h =
          let same : b ≡ n = search (rules, tests) in
          block-typed n known (slice_index_or called n nothing) (are n low) owner base k (subst (λ (j : ℕ). (i : ℕ) → i < length (instances j) → place_at ps (owner (base + i)) ≡ place_at (instances j) i) same owns) h
      by_cases false e h = known.runs b (same_or_below b n below e) owner base k owns h

  pub all-before : ArePous called instances → (n : ℕ) → n ≤ length called → Known n
  all-before are zero low = record { begins = λ f below some. absurd (omega arith); calls = λ f below some. absurd (omega arith); runs = λ b below. absurd (omega arith) }
  all-before are (suc n) low =
      let known = all-before are n (omega arith) in
      record {
        begins = λ f below some.
            let here = ap (λ (g : ℕ → FrameData). g f) (frames-here called (suc n)) in
            subst Begins (sym here) (function-begins f (slice_index_or called f nothing) (are f (omega arith)) refl (subst (λ (g : FrameData). 2 ≤ length g.types) here some));
        calls = calls-more n are (omega arith) known;
        runs = runs-more n are (omega arith) known;
      }
