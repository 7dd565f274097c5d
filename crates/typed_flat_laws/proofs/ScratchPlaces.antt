-- The scratch cells of a typed program take numbers of their types.
use Rattle.std.proofs.Common.{ℕ, Bool, true, false, suc, zero, ◌+◌, ◌<◌, ◌≤◌, List, [], ◌∷◌, ◌++◌, length, refl, arith}
use Rattle.std.specs.Prelude.{All}
use Rattle.std.proofs.lemmas.List.Elements.{All-nil, All-cons, All-append}
use Rattle.plc_types.specs.declared.elementary.Elementary.{Elementary}
use Rattle.plc_types.specs.declared.elementary.Elementary.TheVariants as types
use Rattle.plc_types.proofs.TypeRanges.{least_in, greatest_in}
use Rattle.program_tree.specs.declared.typed.StepCells.{StepCells}
use Rattle.program_tree.specs.declared.typed.Association.{Association}
use Rattle.program_tree.specs.Tree.{Expression, number, cell, unary, chain, call_standard, call_function, Operands, no_operands, operand, Expressions, no_expressions, expression, TransitionData, Statement, assign, call_block, choice, cases, repeat, chart, exit, return, own_body, Statements, no_statements, statement, Choices, no_choices, choose, Entries, no_entries, entry, Actions, no_actions, action}
use Rattle.program_tree.specs.Leaving.{can_exit_all, can_return_all}
use Rattle.program_tree.specs.declared.scratch.Scratch.{Scratch}
use Rattle.program_tree.specs.Places.{whole_cell, place_at, IsTypedPlace}
use Rattle.program_tree.specs.OperandTypes.{arity, first_operand_kind, first_kind}
use Rattle.meaning.specs.Values.{result_type}
use Rattle.meaning.specs.Frames.{FrameData, scratch_at}
use Rattle.flat_form.specs.Frames.{others_behind, other_scratch}
use Rattle.flat_form.specs.Bodies.{Bodies}
use Rattle.flat_form.specs.Calls.{rest_scratch, scratch_in, operand_scratch, all_scratch, input_scratch}
use Rattle.flat_form.specs.FlatCharts.{of_associated, flag_cell, flags_of, scratch_of_transitions, scratch_of_moves}
use Rattle.flat_form.specs.Unless.{flag_scratch}
use Rattle.flat_form.specs.FlatLists.{repeated, scratch_of, scratch_of_all, scratch_of_choices, scratch_of_entries, scratch_of_actions}
use Rattle.typed_programs.specs.Scopes.{Pous, BodyScope}
use Rattle.typed_programs.specs.Expressions.{IsOf, Join, AreOf, AreInputs}
use Rattle.typed_programs.specs.Statements.{AreTypedTransitions, IsTyped, AreTyped, AreTypedChoices, AreTypedEntries, AreTypedActions, IsTypedPart, AreTypedParts}

abbrev pub Whole : List Scratch → Type 0
Whole made = All IsTypedPlace made

none : Whole []
none = All-nil IsTypedPlace

one : (c : Scratch) (made : List Scratch) → IsTypedPlace c → Whole made → Whole (c ∷ made)
one c made h hs = All-cons IsTypedPlace c made h hs

both : (a b : List Scratch) → Whole a → Whole b → Whole (a ++ b)
both a b h g = All-append IsTypedPlace a b h g

whole-typed : (t : Elementary) → IsTypedPlace (whole_cell t)
whole-typed t = (least_in t, greatest_in t)

turns-whole : (n : ℕ) (made : List Scratch) → Whole made → Whole (repeated n made)
turns-whole zero made h = none
turns-whole (suc n) made h = both made (repeated n made) h (turns-whole n made h)

flags-whole : (steps : List StepCells) → Whole (flags_of steps)
flags-whole [] = none
flags-whole (p ∷ steps) = one flag_cell (flag_cell ∷ flags_of steps) (refl, refl) (one flag_cell (flags_of steps) (refl, refl) (flags-whole steps))

flag_scratch-whole : (test : Bool) → Whole (flag_scratch test)
flag_scratch-whole true = one flag_cell [] (refl, refl) none
flag_scratch-whole false = none

associated-whole : (associations : List Association) (made : List Scratch) → Whole made → Whole (of_associated associations made)
associated-whole [] made h = none
associated-whole (a ∷ more) made h = h

-- the cells of a FUNCTION's call
abbrev pub FrameIsWhole : FrameData → Type 0
FrameIsWhole frame = (i : ℕ) → i < length frame.types → IsTypedPlace (scratch_at frame i)

others-whole : (frame : FrameData) → FrameIsWhole frame → (n m : ℕ) → n + m ≤ length frame.types → Whole (other_scratch frame n m)
others-whole frame whole n zero low = none
others-whole frame whole n (suc m) low = one (scratch_at frame n) (other_scratch frame (n + 1) m) (whole n (omega arith)) (others-whole frame whole (n + 1) m (omega arith))

-- what is known of the scratch cells of so many POUs
pub record AreWholeBefore (bodies : Bodies) (n : ℕ) : Type 0 where
  pub frames : (f : ℕ) → f < n → 2 ≤ length (bodies.frame f).types → FrameIsWhole (bodies.frame f)
  pub calls : (f : ℕ) → f < n → Whole (bodies.call_scratch f)
  pub runs : (block : ℕ) → block < n → Whole (bodies.run_scratch block)

module _ (bodies : Bodies) (instances : ℕ → List Scratch) (b : BodyScope) (known : AreWholeBefore bodies b.pous) where
  abbrev pous : Pous
  pous = record { frames = bodies.frame; instances = instances }

  mutual
    in-whole : (t : Elementary) (e : Expression) → IsOf pous b t e → Whole (scratch_in bodies e)
    in-whole t (number v) h = none
    in-whole t (cell place) h = none
    in-whole t (unary o q e) h = in-whole q e h.1
    in-whole t (chain e os) h = both (scratch_in bodies e) (operand_scratch bodies os) (in-whole (first_kind t os) e h.0) (operands-whole (first_kind t os) t os h.1)
    in-whole t (call_standard f q es) h = all-whole (first_operand_kind f q) q es h.2
    in-whole t (call_function f es) h =
        let frame = bodies.frame f in
        let room = h.1 in
        let whole = known.frames f h.0 (omega arith) in
        let others = other_scratch frame (2 + arity es) (others_behind frame (arity es)) in
        both (input_scratch bodies frame 2 es) (rest_scratch bodies frame f (arity es)) (inputs-whole frame whole 2 es h.3 room)
        (both others (scratch_at frame 1 ∷ bodies.call_scratch f) (others-whole frame whole (2 + arity es) (others_behind frame (arity es)) (omega arith))
        (one (scratch_at frame 1) (bodies.call_scratch f) (whole 1 (omega arith)) (known.calls f h.0)))

    operands-whole : (before t : Elementary) (os : Operands) → Join pous b before t os → Whole (operand_scratch bodies os)
    operands-whole before t no_operands h = none
    operands-whole before t (operand o q e os) h = both (scratch_in bodies e) (operand_scratch bodies os) (in-whole q e h.2) (operands-whole (result_type o q) t os h.3)

    all-whole : (first others : Elementary) (es : Expressions) → AreOf pous b first others es → Whole (all_scratch bodies es)
    all-whole first others no_expressions h = none
    all-whole first others (expression e es) h = both (scratch_in bodies e) (all_scratch bodies es) (in-whole first e h.0) (all-whole others others es h.1)

    inputs-whole : (frame : FrameData) → FrameIsWhole frame → (n : ℕ) (es : Expressions) → AreInputs pous b frame n es → n + arity es ≤ length frame.types → Whole (input_scratch bodies frame n es)
    inputs-whole frame whole n no_expressions h room = none
    inputs-whole frame whole n (expression e es) h room =
        let more = input_scratch bodies frame (n + 1) es in
        both (scratch_in bodies e) (scratch_at frame n ∷ more) (in-whole (scratch_at frame n).kind e h.0) (one (scratch_at frame n) more (whole n (omega arith)) (inputs-whole frame whole (n + 1) es h.2 (omega arith)))

  mutual
    statement-whole : (t : Statement) → IsTyped pous b t → Whole (scratch_of bodies t)
    statement-whole (assign target e) h = in-whole (place_at b.places target).kind e h.1.0
    statement-whole (call_block block offset) h = known.runs block h.0
    statement-whole (choice arms other) h = both (scratch_of_choices bodies arms) (scratch_of_all bodies other) (choices-whole arms h.0) (list-whole other h.1)
    statement-whole (cases kind e es other) h =
        let entries = scratch_of_entries bodies es in
        let others = scratch_of_all bodies other in
        both (scratch_in bodies e) (whole_cell kind ∷ (entries ++ others)) (in-whole kind e h.0) (one (whole_cell kind) (entries ++ others) (whole-typed kind) (both entries others (entries-whole kind es h.1) (list-whole other h.2)))
    statement-whole (repeat turns body) h =
        both (flag_scratch (can_exit_all body)) (repeated turns.count (scratch_of_all bodies body)) (flag_scratch-whole (can_exit_all body)) (turns-whole turns.count (scratch_of_all bodies body) (list-whole body h.2))
    statement-whole (chart _ _ _) h = absurd h
    statement-whole exit h = none
    statement-whole return h = none
    statement-whole (own_body ss) h = both (flag_scratch (can_return_all ss)) (scratch_of_all bodies ss) (flag_scratch-whole (can_return_all ss)) (list-whole ss h)

    list-whole : (ts : Statements) → AreTyped pous b ts → Whole (scratch_of_all bodies ts)
    list-whole no_statements h = none
    list-whole (statement t ts) h = both (scratch_of bodies t) (scratch_of_all bodies ts) (statement-whole t h.0) (list-whole ts h.1)

    choices-whole : (arms : Choices) → AreTypedChoices pous b arms → Whole (scratch_of_choices bodies arms)
    choices-whole no_choices h = none
    choices-whole (choose e ss arms) h =
        let body = scratch_of_all bodies ss in
        let more = scratch_of_choices bodies arms in
        both (scratch_in bodies e) (body ++ more) (in-whole types.Bool e h.0) (both body more (list-whole ss h.1) (choices-whole arms h.2))

    entries-whole : (kind : Elementary) (es : Entries) → AreTypedEntries pous b kind es → Whole (scratch_of_entries bodies es)
    entries-whole kind no_entries h = none
    entries-whole kind (entry labels ss es) h = both (scratch_of_all bodies ss) (scratch_of_entries bodies es) (list-whole ss h.1) (entries-whole kind es h.2)

  -- ---- charts

  actions-whole : (n : ℕ) (all : Actions) → AreTypedActions pous b n all → Whole (scratch_of_actions bodies all)
  actions-whole n no_actions h = none
  actions-whole n (action latch associations ss rest) h =
      let body = scratch_of_all bodies ss in
      both (of_associated associations body) (scratch_of_actions bodies rest) (associated-whole associations body (list-whole ss h.2)) (actions-whole n rest h.3)

  transitions-whole : (n : ℕ) (ts : List TransitionData) → AreTypedTransitions pous b n ts → Whole (scratch_of_transitions bodies ts)
  transitions-whole n [] h = none
  transitions-whole n (t ∷ ts) h = both (scratch_in bodies t.condition) (scratch_of_transitions bodies ts) (in-whole types.Bool t.condition h.0) (transitions-whole n ts h.3)

  part-whole : (t : Statement) → IsTypedPart pous b t → Whole (scratch_of bodies t)
  part-whole (assign target e) h = statement-whole (assign target e) h
  part-whole (call_block block offset) h = statement-whole (call_block block offset) h
  part-whole (choice arms other) h = statement-whole (choice arms other) h
  part-whole (cases kind e es other) h = statement-whole (cases kind e es other) h
  part-whole (repeat turns body) h = statement-whole (repeat turns body) h
  part-whole (chart steps all ts) h =
      both (scratch_of_actions bodies all) (scratch_of_moves bodies steps ts) (actions-whole (length steps) all h.2)
      (both (flags_of steps) (scratch_of_transitions bodies ts) (flags-whole steps) (transitions-whole (length steps) ts h.3))
  part-whole exit h = none
  part-whole return h = none
  part-whole (own_body ss) h = statement-whole (own_body ss) h

  pub parts-whole : (ts : Statements) → AreTypedParts pous b ts → Whole (scratch_of_all bodies ts)
  parts-whole no_statements h = none
  parts-whole (statement t ts) h = both (scratch_of bodies t) (scratch_of_all bodies ts) (part-whole t h.0) (parts-whole ts h.1)
