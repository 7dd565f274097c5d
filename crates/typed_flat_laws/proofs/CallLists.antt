-- The statements that a typed expression's calls of FUNCTIONs become are typed.
use Rattle.std.proofs.Common.{◌≡◌, ℕ, suc, zero, ◌+◌, ◌<◌, ◌≤◌, Bool, true, false, List, [], ◌∷◌, ◌++◌, length, subst, arith}
use Rattle.std.specs.Prelude.{if◌then◌else◌}
use Rattle.std.proofs.lemmas.Bool.{or_right}
use Rattle.std.proofs.lemmas.List.{length-append}
use Rattle.plc_types.specs.declared.elementary.Elementary.{Elementary}
use Rattle.plc_types.specs.Types.{range_of, in_range}
use Rattle.plc_types.proofs.InRange.{between_in}
use Rattle.program_tree.specs.Tree.{Expression, number, cell, unary, chain, call_standard, call_function, Operands, no_operands, operand, Expressions, no_expressions, expression}
use Rattle.program_tree.specs.declared.scratch.Scratch.{Scratch}
use Rattle.program_tree.specs.OperandTypes.{arity, first_operand_kind, first_kind}
use Rattle.program_tree.specs.Places.{place_at}
use Rattle.meaning.specs.Values.{result_type}
use Rattle.meaning.specs.Frames.{FrameData, type_at, scratch_at, initial_at, counted_from}
use Rattle.flat_core.specs.FlatTree.{FlatStatement, set}
use Rattle.flat_form.specs.Frames.{input_start, others_behind, other_scratch, other_starts, places_of}
use Rattle.flat_form.specs.Calls.{rest_scratch, rest_list, scratch_in, operand_scratch, all_scratch, input_scratch, input_places, before, operands_before, all_before, inputs_before}
use Rattle.node_core.specs.TypedFlats as flats
use Rattle.typed_programs.specs.Expressions.{Join, AreOf, AreInputs}
use Rattle.typed_flat_laws.proofs.TypedLists.{Typed, typed_both, takes_at, stand_front, stand_back}
use Rattle.typed_flat_laws.proofs.FramePlaces.{counted-length, Begins}
use Rattle.typed_flat_laws.proofs.Standing.{Standing, pous_of, PlacesStand, places_both, others-stand, inputs-stand, inputs-length, others-length}
use Rattle.typed_flat_laws.proofs.Moved.{Stand, Is, left, moved-taken}

-- ---- the cells of a call begin with their values

-- a cell of a frame takes the value that it begins with
initial-taken : (ps : List Scratch) (frame : FrameData) → Begins frame → (n : ℕ) → n < length frame.types → flats.Takes ps (scratch_at frame n) (number (initial_at frame n))
initial-taken ps frame begins n low =
    let its = begins n low in
    (between_in (range_of (scratch_at frame n).kind) (scratch_at frame n).range (initial_at frame n) its.0.0 its.0.1 its.1, or_right (scratch_at frame n).is_subrange (in_range (initial_at frame n) (scratch_at frame n).range) its.1)

module _ (s : Standing) where
  -- a list over these places
  abbrev pub Lists : List FlatStatement → Type 0
  Lists a = Typed s.places a

  start-typed : (frame : FrameData) → Begins frame → (n t : ℕ) → n < length frame.types → place_at s.places t ≡ scratch_at frame n → flats.IsTypedFlatOver s.places (set t (number (initial_at frame n)))
  start-typed frame begins n t low is = takes_at s.places t (scratch_at frame n) (number (initial_at frame n)) is (initial-taken s.places frame begins n low)

  others-typed : (frame : FrameData) → Begins frame → (n m k : ℕ) → n + m ≤ length frame.types → Stand s k (other_scratch frame n m) → Lists (other_starts frame n m k)
  others-typed frame begins n zero k low stands = tt
  others-typed frame begins n (suc m) k low stands =
      (start-typed frame begins n k (omega arith) stands.0, others-typed frame begins (n + 1) m (k + 1) (omega arith) stands.1)

  -- behind its inputs
  rest-typed : (f inputs : ℕ) (places : List ℕ) (k : ℕ) → f < s.scope.pous → 2 + inputs ≤ length (s.bodies.frame f).types → length places ≡ inputs → PlacesStand s.places (s.bodies.frame f) 2 places
      → Stand s k (rest_scratch s.bodies (s.bodies.frame f) f inputs) → Lists (rest_list s.bodies (s.bodies.frame f) f inputs places k)
  rest-typed f inputs places k known room many stand stands =
      let frame = s.bodies.frame f in
      let others = others_behind frame inputs in
      let begins = s.before.begins f known (omega arith) in
      let made = other_scratch frame (2 + inputs) others in
      let behind = scratch_at frame 1 ∷ s.bodies.call_scratch f in
      let front = stand_front s.places made behind k stands in
      let back : Stand s (k + others) behind = subst (λ j. Stand s (k + j) behind) (others-length frame (2 + inputs) others) (stand_back s.places made behind k stands) in
      let at : 2 + inputs ≡ 2 + length places = omega arith in
      let long : length (places_of places k others) ≡ inputs + others = simp length-append (omega (arith, counted-length k others)) in
      typed_both s.places (other_starts frame (2 + inputs) others k) _ (others-typed frame begins (2 + inputs) others k (omega arith) front) (
        start-typed frame begins 1 (k + others) (omega arith) back.0,
        s.before.calls f known (omega arith) (k + others) (places_of places k others) (k + others + 1) (omega arith)
            (back.0, places_both s.places frame 2 places (counted_from k others) stand (subst (λ j. PlacesStand s.places frame j (counted_from k others)) at (others-stand s.places frame (2 + inputs) others k front)))
            back.1,
      )

  -- the assignments to an input's cell: that of its start, where it is of a subrange, and that of its value
  input-typed : (frame : FrameData) → Begins frame → (n t : ℕ) (e : Expression) (rest : List FlatStatement) → n < length frame.types → place_at s.places t ≡ scratch_at frame n → flats.Takes s.places (scratch_at frame n) e → Lists rest
      → Lists (input_start frame n t ++ set t e ∷ rest)
  input-typed frame begins n t e rest low is taken more = by_test (type_at frame.types n).is_subrange
    where
      by_test : (test : Bool) → Lists ((if test then set t (number (initial_at frame n)) ∷ [] else []) ++ set t e ∷ rest)
      by_test true = (start-typed frame begins n t low is, (takes_at s.places t (scratch_at frame n) e is taken, more))
      by_test false = (takes_at s.places t (scratch_at frame n) e is taken, more)

  -- ---- expressions

  mutual
    pub before-typed : (t : Elementary) (e : Expression) (k : ℕ) → Is s t e → Stand s k (scratch_in s.bodies e) → Lists (before s.bodies s.owner s.base e k)
    before-typed t (number v) k h stands = tt
    before-typed t (cell place) k h stands = tt
    before-typed t (unary o q e) k h stands = before-typed q e k h.1 stands
    before-typed t (chain e os) k h stands =
        let mine = scratch_in s.bodies e in
        let others = operand_scratch s.bodies os in
        typed_both s.places (before s.bodies s.owner s.base e k) _ (before-typed (first_kind t os) e k h.0 (stand_front s.places mine others k stands))
        (operands-typed (first_kind t os) t os (k + length mine) h.1 (stand_back s.places mine others k stands))
    before-typed t (call_standard f q es) k h stands = all-typed (first_operand_kind f q) q es k h.2 stands
    before-typed t (call_function f es) k h stands =
        let frame = s.bodies.frame f in
        let room = h.1 in
        let inputs = input_scratch s.bodies frame 2 es in
        let rest = rest_scratch s.bodies frame f (arity es) in
        let front = stand_front s.places inputs rest k stands in
        typed_both s.places (inputs_before s.bodies s.owner s.base frame 2 es k) _ (inputs-typed frame (s.before.begins f h.0 (omega arith)) 2 es k h.3 room front)
        (rest-typed f (arity es) (input_places s.bodies es k) (k + length inputs) h.0 room (inputs-length s.bodies es k) (inputs-stand s.places s.bodies frame 2 es k front) (stand_back s.places inputs rest k stands))

    operands-typed : (first t : Elementary) (os : Operands) (k : ℕ) → Join (pous_of s) s.scope first t os → Stand s k (operand_scratch s.bodies os) → Lists (operands_before s.bodies s.owner s.base os k)
    operands-typed first t no_operands k h stands = tt
    operands-typed first t (operand o q e os) k h stands =
        let mine = scratch_in s.bodies e in
        let others = operand_scratch s.bodies os in
        typed_both s.places (before s.bodies s.owner s.base e k) _ (before-typed q e k h.2 (stand_front s.places mine others k stands))
        (operands-typed (result_type o q) t os (k + length mine) h.3 (stand_back s.places mine others k stands))

    all-typed : (first others : Elementary) (es : Expressions) (k : ℕ) → AreOf (pous_of s) s.scope first others es → Stand s k (all_scratch s.bodies es) → Lists (all_before s.bodies s.owner s.base es k)
    all-typed first others no_expressions k h stands = tt
    all-typed first others (expression e es) k h stands =
        let mine = scratch_in s.bodies e in
        let more = all_scratch s.bodies es in
        typed_both s.places (before s.bodies s.owner s.base e k) _ (before-typed first e k h.0 (stand_front s.places mine more k stands))
        (all-typed others others es (k + length mine) h.1 (stand_back s.places mine more k stands))

    inputs-typed : (frame : FrameData) → Begins frame → (n : ℕ) (es : Expressions) (k : ℕ) → AreInputs (pous_of s) s.scope frame n es → n + arity es ≤ length frame.types → Stand s k (input_scratch s.bodies frame n es)
        → Lists (inputs_before s.bodies s.owner s.base frame n es k)
    inputs-typed frame begins n no_expressions k h room stands = tt
    inputs-typed frame begins n (expression e es) k h room stands =
        let mine = scratch_in s.bodies e in
        let others = scratch_at frame n ∷ input_scratch s.bodies frame (n + 1) es in
        let j = k + length mine in
        let front = stand_front s.places mine others k stands in
        let back = stand_back s.places mine others k stands in
        typed_both s.places (before s.bodies s.owner s.base e k) _ (before-typed (scratch_at frame n).kind e k h.0 front)
        (input-typed frame begins n j (left s e k) (inputs_before s.bodies s.owner s.base frame (n + 1) es (j + 1)) (omega arith) back.0 (moved-taken s (scratch_at frame n) e k (h.0, h.1) front)
        (inputs-typed frame begins (n + 1) es (j + 1) h.2 (omega arith) back.1))
