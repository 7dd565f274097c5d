use Rattle.std.proofs.Common.{◌≡◌, ◌<◌, ◌+◌, ◌*◌, ◌^◌, ◌++◌, ap, refl, arith, rules, Bool, Vec, Global, List, length, length-append, drop, get_or, map, subst, sym, ◌∙◌, true, false}
use Rattle.std.specs.Prelude.{IfSome, ◌||◌}
use Rattle.std.proofs.lemmas.Int.{ints}
use Rattle.program_tree.specs.declared.typed.TypedExpr.{TypedExpr}
use Rattle.program_tree.specs.declared.typed.Operand.{Operand, out-Operand}
use Rattle.program_tree.specs.declared.typed.TypedStmt.{TypedStmt}
use Rattle.program_tree.specs.declared.typed.TypedArm.{TypedArm}
use Rattle.program_tree.specs.declared.typed.TypedEntry.{TypedEntry}
use Rattle.program_tree.specs.declared.typed.TypedTransition.{TypedTransition}
use Rattle.program_tree.specs.declared.typed.StepCells.{StepCells}
use Rattle.program_tree.specs.declared.typed.TypedAction.{TypedAction}
use Rattle.program_tree.specs.Tree.{Expression, unary, chain, call_standard, call_function, Operands, operand, Expressions, assign, call_block, choice, cases, repeat, chart, own_body, Statements, statement, Choices}
use Rattle.program_tree.specs.View.{OperandData, ChoiceData, EntryData, ActionData, entry_view, transition_view, expr_view, operand_view, operands_view, arguments_view, stmt_view, stmts_view, entries_view, arm_view, choices_view, action_view, actions_view, transitions_view, called_view, all_called_view}
use Rattle.meaning.proofs.Sizes.{nodes, operand_nodes, all_nodes, statement_nodes, body_nodes, choice_nodes, entry_nodes, action_nodes, transition_nodes, called_nodes}
use Rattle.meaning.proofs.Callees.{at-number, weight-call}
use Rattle.flat_core.specs.declared.flat_tree.FlatStmt.{FlatStmt}
use Rattle.flat_core.specs.FlatView.{flats_view, flat_arms_view}
use Rattle.flat_charts.specs.Views.{frame_view}
use Rattle.flat_charts.specs.Views.{owner_view, HasPlace, FlagsHavePlaces}
use Rattle.flat_form.specs.Calls.{operand_scratch, all_scratch, input_scratch, input_places, moved_operands, all_moved, operands_before, all_before, inputs_before}
use Rattle.flat_form.specs.Unless.{was_left, guarded, unless_left}
use Rattle.flat_form.specs.FlatLists.{scratch_of_all, scratch_of_choices, flat_of_all, flat_choices}
use Rattle.flat_charts.specs.Views.{bodies_here}
use Rattle.flat_form.specs.Idle.{idle_in}
use Rattle.flat_form.proofs.FrameLemmas.{arity-length}
use Rattle.flat_form.proofs.IdleTables.{idle-first}
use Rattle.flat_form.proofs.OperandLemmas.{operand_view-out, with_operands, with_expressions, with_operands-none, with_expressions-none, left-operands, left-expressions, no-operands-left, no-expressions-left, pushed-operands, pushed-expressions}
use Rattle.fb_inline.proofs.CallLemmas.{more-operands, more-expressions, more-operands-before, more-before, more-operand-scratch, more-scratch, more-input-scratch, more-input-places, more-inputs-before, call-value, call-made, call-listed}
use Rattle.fb_inline.proofs.ChartLemmas.{chart-listed}
use Rattle.fb_inline.proofs.CaseLemmas.{left-choices, more-choices, more-choices-scratch, case-made, case-listed}
use Rattle.fb_inline.proofs.PouLemmas.{weight_here, list-ran, scratch-ran, list-none, scratch-none, list-idle, scratch-idle, call-ran, call-ran-scratch, frame-known}
use Rattle.fb_inline.specs.declared.leaving.Part.{Part}
use Rattle.fb_inline.specs.Leaving.{flags_view, within}
use Rattle.fb_inline.proofs.LeavingLemmas.{scratch-listed, statement-listed, part-listed}
use Rattle.fb_inline.proofs.TurnLemmas.{unrolled-turn, turn-listed, turn-guarded, repeated-turn, stays-first, stays-turn}
use Rattle.typed_programs.specs.Statements.{AreTyped, IsTypedPart}
use Rattle.fb_inline.specs.TypedScopes.{IsTypedOver, HasType}
use Rattle.fb_inline.proofs.TypedLemmas.{opened, mapped, entry-typed, operand-typed, expression-typed, input-typed, statement-typed, arm-typed, action-typed, transition-typed, parts-typed, latch-placed, flags-placed, TypedExpression, TypedPart, cell-placed, unary-typed, first-typed, operands-typed, standard-typed, call-known, inputs-typed, no-block, function-typed, run-known, run-placed, block-typed, target-placed, control-placed, turn-bounds, chart-steps-placed, chart-latches-placed}
use Rattle.fb_inline.proofs.ViewLemmas.{few-items, cell-view, unary-view, chain-view, standard-view, function-view, assign-view, run-view, if-view, case-view, for-view, body-view, chart-view, arm_view-out, entry_view-out, action_view-out, left-statements, left-entries, left-actions, left-transitions}
use Rattle.fb_inline.proofs.+flatten.Goals as goal
use Rattle.fb_inline.proofs.+flatten.Goals.{statements::flatten_all-then-left+in_ok-push, statements::flatten_all-then-left-via-then-left, statements::flatten_all-then-left-via-else-left+then-left-2, statements::flatten_all-else-left+else-left-2}

pub calls::flatten_operands-loop-operand-preserved : goal.calls::flatten_operands-loop-operand-preserved
calls::flatten_operands-loop-operand-preserved t c =
    let scope = c.args.scope.now in
    let bodies = bodies_here scope in
    let owner = owner_view scope.owner in
    let i = c.loop-operand.operand-index in
    let item = c.operand-item.result in
    let o = (out-Operand item).operator in
    let kind = (out-Operand item).kind in
    let e = expr_view (out-Operand item).right in
    let made = c.loop-operand.scratch.items in
    let rest = operands_view (drop (i + 1) c.args.operands.now) in
    let left = left-operands c.args.operands.now i item item c.loop-operand-test.true (sym c.operand-item.is) ∙ ap (λ (y : OperandData). operand y.0 y.1 y.2 rest) (operand_view-out item) in
    let k = scope.cells + length made in
    record {
      value = more-operands bodies owner scope.base scope.cells e made _ c.in_ok-right.ensures.scratch o kind rest (map operand_view c.loop-operand.there.items) _ _ (pushed-operands c.loop-operand.there.items _ _ c.in_ok-push.ensures.items) (operand_view-out _ ∙ ap (λ (y : Expression). (o, kind, y)) c.in_ok-right.ensures.value)
          ∙ ap (λ (os : Operands). with_operands (map operand_view c.loop-operand.there.items) (moved_operands bodies owner scope.base os k)) (sym left) ∙ c.loop-operand.invariant.value;
      list = more-operands-before bodies owner scope.base scope.cells e made _ c.in_ok-right.ensures.scratch o kind rest _ _ c.in_ok-right.ensures.list
          ∙ ap (λ (os : Operands). flats_view c.loop-operand.out.items ++ operands_before bodies owner scope.base os k) (sym left) ∙ c.loop-operand.invariant.list;
      scratch = more-operand-scratch bodies owner scope.base scope.cells e made _ c.in_ok-right.ensures.scratch o kind rest
          ∙ ap (λ (os : Operands). made ++ operand_scratch bodies os) (sym left) ∙ c.loop-operand.invariant.scratch;
      weighs = omega (arith, ap operand_nodes left, c.loop-operand.invariant.weighs);
    }

pub calls::flatten_operands-returns-clause-value : goal.calls::flatten_operands-returns-clause-value
calls::flatten_operands-returns-clause-value t c =
    let scope = c.args.scope.now in
    let ds = map operand_view c.loop-operand.there.items in
    let none = no-operands-left c.args.operands.now c.loop-operand.operand-index c.loop-operand-test.false in
    sym (with_operands-none ds)
    ∙ ap (λ (os : Operands). with_operands ds (moved_operands (bodies_here scope) (owner_view scope.owner) scope.base os (scope.cells + length c.loop-operand.scratch.items))) (sym none)
    ∙ c.loop-operand.invariant.value

pub calls::flatten_exprs-loop-expr-preserved : goal.calls::flatten_exprs-loop-expr-preserved
calls::flatten_exprs-loop-expr-preserved t c =
    let scope = c.args.scope.now in
    let bodies = bodies_here scope in
    let owner = owner_view scope.owner in
    let i = c.loop-expr.expr-index in
    let item = c.expr-item.result in
    let e = expr_view item in
    let made = c.loop-expr.scratch.items in
    let rest = arguments_view (drop (i + 1) c.args.list.now) in
    let left = left-expressions c.args.list.now i item item c.loop-expr-test.true (sym c.expr-item.is) in
    let k = scope.cells + length made in
    record {
      value = more-expressions bodies owner scope.base scope.cells e made _ c.in_ok-expr.ensures.scratch rest (map expr_view c.loop-expr.there.items) _ _ (pushed-expressions c.loop-expr.there.items _ _ c.in_ok-push.ensures.items) c.in_ok-expr.ensures.value
          ∙ ap (λ (es : Expressions). with_expressions (map expr_view c.loop-expr.there.items) (all_moved bodies owner scope.base es k)) (sym left) ∙ c.loop-expr.invariant.value;
      list = more-before bodies owner scope.base scope.cells e made _ c.in_ok-expr.ensures.scratch rest _ _ c.in_ok-expr.ensures.list
          ∙ ap (λ (es : Expressions). flats_view c.loop-expr.out.items ++ all_before bodies owner scope.base es k) (sym left) ∙ c.loop-expr.invariant.list;
      scratch = more-scratch bodies owner scope.base scope.cells e made _ c.in_ok-expr.ensures.scratch rest
          ∙ ap (λ (es : Expressions). made ++ all_scratch bodies es) (sym left) ∙ c.loop-expr.invariant.scratch;
      weighs = omega (arith, ap all_nodes left, c.loop-expr.invariant.weighs);
    }

pub calls::flatten_exprs-returns-clause-value : goal.calls::flatten_exprs-returns-clause-value
calls::flatten_exprs-returns-clause-value t c =
    let scope = c.args.scope.now in
    let ds = map expr_view c.loop-expr.there.items in
    let none = no-expressions-left c.args.list.now c.loop-expr.expr-index c.loop-expr-test.false in
    sym (with_expressions-none ds)
    ∙ ap (λ (es : Expressions). with_expressions ds (all_moved (bodies_here scope) (owner_view scope.owner) scope.base es (scope.cells + length c.loop-expr.scratch.items))) (sym none)
    ∙ c.loop-expr.invariant.value

pub calls::flatten_inputs-loop-input-preserved : goal.calls::flatten_inputs-loop-input-preserved
calls::flatten_inputs-loop-input-preserved t c =
    let scope = c.args.scope.now in
    let bodies = bodies_here scope in
    let owner = owner_view scope.owner in
    let frame = frame_view c.args.frame.now in
    let place = c.loop-input.place in
    let i = c.loop-input.input-index in
    let item = c.input-item.result in
    let e = expr_view item in
    let made = c.loop-input.scratch.items in
    let rest = arguments_view (drop (i + 1) c.args.inputs.now) in
    let left = left-expressions c.args.inputs.now i item item c.loop-input-test.true (sym c.input-item.is) in
    let k = scope.cells + length made in
    record {
      place = omega (arith, c.loop-input.invariant.place);
      places = more-input-places bodies owner scope.base scope.cells e made _ c.in_ok-value.ensures.scratch frame place rest _ c.in_ok-there.ensures.scratch _ _ c.in_ok-there.there c.in_ok-push.ensures.items c.in_ok-there.ensures.place
          ∙ ap (λ (es : Expressions). c.loop-input.places.items ++ input_places bodies es k) (sym left) ∙ c.loop-input.invariant.places;
      list = more-inputs-before bodies owner scope.base scope.cells e made _ c.in_ok-value.ensures.scratch frame place rest _ c.in_ok-there.ensures.scratch _ _ _ _ c.in_ok-value.ensures.list c.in_ok-value.ensures.value c.in_ok-there.ensures.list
          ∙ ap (λ (es : Expressions). flats_view c.loop-input.out.items ++ inputs_before bodies owner scope.base frame place es k) (sym left) ∙ c.loop-input.invariant.list;
      scratch = more-input-scratch bodies owner scope.base scope.cells e made _ c.in_ok-value.ensures.scratch frame place rest _ c.in_ok-there.ensures.scratch
          ∙ ap (λ (es : Expressions). made ++ input_scratch bodies frame place es) (sym left) ∙ c.loop-input.invariant.scratch;
      weighs = omega (arith, ap all_nodes left, c.loop-input.invariant.weighs);
    }

pub calls::flatten_answer-flatten_all-requires : goal.calls::flatten_answer-flatten_all-requires
calls::flatten_answer-flatten_all-requires t c =
    let ps = c.args.scope.now.called.now in
    let low = call-known c.args.scope.now c.args.function (arguments_view c.args.inputs.now) c.requires.typed in
    let is = at-number ps c.args.function c.index-scope-function.result _ (omega arith) (ap called_view c.in-Function.is) in
    let w = weight-call (all_called_view ps) c.args.function c.args.scope.now.below low in
    let m = ap called_nodes is in
    let b = ap (λ l. body_nodes (stmts_view l)) c.deref-2.ensures.value in
    let d : weight_here c.args.scope.now + 4 * all_nodes (arguments_view c.args.inputs.now) + 2 ≡ t = c.decreases in
    let few : length c.in-Function.frame.types.items < 2 ^ 64 = omega (arith, few-items c.in-Function.frame.types) in (
      omega arith,
      (
        record { few = c.requires.known.few; called = omega arith; idle = idle-first c.args.scope.now.idle.now (all_called_view ps) c.args.function c.args.scope.now.below (omega arith) c.requires.known.idle },
        function-typed c.args.scope.now c.args.function (arguments_view c.args.inputs.now) c.requires.typed _ _ _ _ _ is (ap stmts_view c.deref-2.ensures.value) few _ refl refl refl,
      ),
    )

pub calls::flatten_answer-returns-clause-value : goal.calls::flatten_answer-returns-clause-value
calls::flatten_answer-returns-clause-value t c =
    let scope = c.args.scope.now in
    let ps = scope.called.now in
    let low = call-known c.args.scope.now c.args.function (arguments_view c.args.inputs.now) c.requires.typed in
    let is = at-number ps c.args.function c.index-scope-function.result _ (omega arith) (ap called_view c.in-Function.is) in
    c.cell_at.ensures ∙ call-value (bodies_here scope) c.args.function (length c.args.inputs.now) scope.cells (frame_view c.in-Function.frame) (arguments_view c.args.inputs.now) (frame-known (all_called_view ps) c.args.function scope.below _ is) (sym (arity-length c.args.inputs.now))
    _ _ _ c.in_ok-places.ensures.scratch c.in_ok-put_others.ensures.scratch (owner_view scope.owner) scope.base c.in_ok-answer.answer c.in_ok-answer.ensures.place

pub calls::flatten_answer-returns-clause-list : goal.calls::flatten_answer-returns-clause-list
calls::flatten_answer-returns-clause-list t c =
    let scope = c.args.scope.now in
    let ps = scope.called.now in
    let low = call-known c.args.scope.now c.args.function (arguments_view c.args.inputs.now) c.requires.typed in
    let is = at-number ps c.args.function c.index-scope-function.result _ (omega arith) (ap called_view c.in-Function.is) in
    let ran = call-ran (all_called_view ps) c.args.function scope.below c.in_ok-answer.answer _ _ _ _ _ _ _ low is c.deref.ensures.value (ap stmts_view c.deref-2.ensures.value) c.in_ok-flatten_all.ensures.list in
    call-listed (bodies_here scope) c.args.function (length c.args.inputs.now) scope.cells (frame_view c.in-Function.frame) (arguments_view c.args.inputs.now) (frame-known (all_called_view ps) c.args.function scope.below _ is) (sym (arity-length c.args.inputs.now))
    _ _ _ c.in_ok-places.ensures.scratch c.in_ok-put_others.ensures.scratch (owner_view scope.owner) scope.base c.in_ok-answer.answer _ _ _ _ _ _ _ _ c.in_ok-answer.ensures.scratch c.in_ok-answer.ensures.place
    c.in_ok-places.ensures.places c.in_ok-put_others.ensures.places c.in_ok-places.ensures.list c.in_ok-put_others.ensures.list c.in_ok-answer.ensures.list ran

pub calls::flatten_answer-returns-clause-scratch : goal.calls::flatten_answer-returns-clause-scratch
calls::flatten_answer-returns-clause-scratch t c =
    let scope = c.args.scope.now in
    let ps = scope.called.now in
    let low = call-known c.args.scope.now c.args.function (arguments_view c.args.inputs.now) c.requires.typed in
    let is = at-number ps c.args.function c.index-scope-function.result _ (omega arith) (ap called_view c.in-Function.is) in
    let ran = call-ran-scratch (all_called_view ps) c.args.function scope.below _ _ _ _ low is (ap stmts_view c.deref-2.ensures.value) c.in_ok-flatten_all.ensures.scratch in
    call-made (bodies_here scope) c.args.function (length c.args.inputs.now) scope.cells (frame_view c.in-Function.frame) (arguments_view c.args.inputs.now) (frame-known (all_called_view ps) c.args.function scope.below _ is) (sym (arity-length c.args.inputs.now))
    _ _ _ c.in_ok-places.ensures.scratch c.in_ok-put_others.ensures.scratch _ _ c.in_ok-answer.ensures.scratch ran

pub statements::flatten_all-loop-stmt-preserved : goal.statements::flatten_all-loop-stmt-preserved
statements::flatten_all-loop-stmt-preserved t c =
    let scope = c.args.scope.now in
    let bodies = bodies_here scope in
    let owner = owner_view scope.owner in
    let flags = flags_view c.args.flags in
    let i = c.loop-stmt.stmt-index in
    let item = c.stmt-item.result in
    let made = c.loop-stmt.scratch.items in
    let made1 = c.flatten_one.new.scratch.items in
    let parts = c.loop-stmt.parts.items in
    let out = flats_view c.loop-stmt.out.items in
    let out1 = flats_view c.flatten_one.new.out.items in
    let rest = stmts_view (drop (i + 1) c.args.list.now) in
    let left = left-statements c.args.list.now i item item c.loop-stmt-test.true (sym c.stmt-item.is) in
    let ahead = flat_of_all bodies owner scope.base flags (stmts_view (drop i c.args.list.now)) (scope.cells + length made) in
    let is_ahead : ahead ≡ flat_of_all bodies owner scope.base flags (statement (stmt_view item) rest) (scope.cells + length made) = ap (λ (ss : Statements). flat_of_all bodies owner scope.base flags ss (scope.cells + length made)) left in
    let exits = c.leaving-left.result.exits in
    let returns = c.leaving-left.result.returns in
    record {
      list = elim c.if-left.branch [
        | statements::flatten_all-then-left+in_ok-push w ↦
            let some : (exits || returns) ≡ true = elim w.then-left.branch [
              | statements::flatten_all-then-left-via-then-left v ↦ ap (λ (b : Bool). b || returns) v.if-left.true
              | statements::flatten_all-then-left-via-else-left+then-left-2 v ↦ ap (λ (b : Bool). b || returns) v.if-left.false ∙ v.if-left-2.true
            ] in
            part-listed bodies owner scope.base scope.cells flags (stmt_view item) rest made made1 c.in_ok-flatten_one.ensures.scratch parts c.if-left.parts.items _ out out1 (flats_view c.if-left.out.items) ahead _
            c.leaving-left.ensures.exits c.leaving-left.ensures.returns some (ap (λ (v : Vec Part Global). v.items) w.parts-is ∙ w.in_ok-push.ensures.items) (ap (λ (v : Vec FlatStmt Global). flats_view v.items) w.replace-list.ensures.value)
            (ap (λ (v : Vec FlatStmt Global). flats_view v.items) (w.out-is ∙ w.replace-list.ensures.after) ∙ ap flats_view w.new.ensures.items) c.in_ok-flatten_one.ensures.list is_ahead c.loop-stmt.invariant.list
        | statements::flatten_all-else-left+else-left-2 w ↦
            let none : (exits || returns) ≡ false = ap (λ (b : Bool). b || returns) w.if-left.false ∙ w.if-left-2.false in
            let listed = statement-listed bodies owner scope.base scope.cells flags (stmt_view item) rest made made1 c.in_ok-flatten_one.ensures.scratch exits returns parts out out1 ahead _
            c.leaving-left.ensures.exits c.leaving-left.ensures.returns none c.in_ok-flatten_one.ensures.list is_ahead c.loop-stmt.invariant.list in
            ap (λ (v : Vec Part Global). within flags v.items (flats_view c.if-left.out.items ++ flat_of_all bodies owner scope.base flags rest (scope.cells + length made1))) w.parts-is
            ∙ (ap (λ (v : Vec FlatStmt Global). within flags parts (flats_view v.items ++ flat_of_all bodies owner scope.base flags rest (scope.cells + length made1))) w.out-is ∙ listed)
      ];
      scratch = scratch-listed bodies owner scope.base scope.cells flags (stmt_view item) rest made made1 c.in_ok-flatten_one.ensures.scratch (scratch_of_all bodies (stmts_view (drop i c.args.list.now))) _
          (ap (scratch_of_all bodies) left) c.loop-stmt.invariant.scratch;
      weighs = omega (arith, ap body_nodes left, c.loop-stmt.invariant.weighs);
    }

pub statements::flatten_arms-loop-arm-preserved : goal.statements::flatten_arms-loop-arm-preserved
statements::flatten_arms-loop-arm-preserved t c =
    let scope = c.args.scope.now in
    let bodies = bodies_here scope in
    let owner = owner_view scope.owner in
    let flags = flags_view c.args.flags in
    let i = c.loop-arm.arm-index in
    let item = c.arm-item.result in
    let made = c.loop-arm.scratch.items in
    let rest = choices_view (drop (i + 1) c.args.arms.now) in
    let left = left-choices c.args.arms.now i item item c.loop-arm-test.true (sym c.arm-item.is) in
    let k = scope.cells + length made in
    record {
      list = more-choices bodies owner scope.base scope.cells flags (arm_view item) rest made _ c.in_ok-flatten_arm.ensures.scratch _ _ c.in_ok-flatten_arm.ensures.list
          ∙ ap (λ (arms : Choices). flat_arms_view c.loop-arm.out.items ++ flat_choices bodies owner scope.base flags arms k) (sym left) ∙ c.loop-arm.invariant.list;
      scratch = more-choices-scratch bodies owner scope.base scope.cells flags (arm_view item) rest made _ c.in_ok-flatten_arm.ensures.scratch
          ∙ ap (λ (arms : Choices). made ++ scratch_of_choices bodies arms) (sym left) ∙ c.loop-arm.invariant.scratch;
      weighs = omega (arith, ap choice_nodes left, c.loop-arm.invariant.weighs);
    }

pub statements::flatten_case-returns-clause-list : goal.statements::flatten_case-returns-clause-list
statements::flatten_case-returns-clause-list t c =
    let scope = c.args.scope.now in
    case-listed (bodies_here scope) (owner_view scope.owner) scope.base scope.cells (flags_view c.args.flags) (expr_view c.args.selector.now) (entries_view c.args.entries.now) (stmts_view c.args.other.now) c.args.kind
    c.args.scratch.now.items _ _ _ _ c.in_ok-value.ensures.scratch c.in_ok-place.ensures.scratch c.in_ok-flatten_entries.ensures.scratch c.in_ok-flatten_all.ensures.scratch
    _ _ _ _ _ c.in_ok-place.place _ _ _ _ c.in_ok-value.ensures.value c.in_ok-value.ensures.list c.in_ok-place.ensures.place c.in_ok-place.ensures.list (ap flat_arms_view c.new-flat_arms.ensures.items) c.in_ok-flatten_entries.ensures.list
    (ap flats_view c.new-rest.ensures.items) c.in_ok-flatten_all.ensures.list c.in_ok-put_if.ensures

pub statements::flatten_case-returns-clause-scratch : goal.statements::flatten_case-returns-clause-scratch
statements::flatten_case-returns-clause-scratch t c =
    let scope = c.args.scope.now in
    case-made (bodies_here scope) (owner_view scope.owner) scope.base scope.cells (flags_view c.args.flags) (expr_view c.args.selector.now) (entries_view c.args.entries.now) (stmts_view c.args.other.now) c.args.kind
    c.args.scratch.now.items _ _ _ _ c.in_ok-value.ensures.scratch c.in_ok-place.ensures.scratch c.in_ok-flatten_entries.ensures.scratch c.in_ok-flatten_all.ensures.scratch

pub statements::unroll-loop-preserved : goal.statements::unroll-loop-preserved
statements::unroll-loop-preserved t c =
    let scope = c.args.scope.now in
    let flags = flags_view c.args.flags in
    let body = flat_of_all (bodies_here scope) (owner_view scope.owner) scope.base flags (stmts_view c.args.body.now) in
    let made = scratch_of_all (bodies_here scope) (stmts_view c.args.body.now) in
    let longer : length c.flatten_all.new.scratch.items ≡ length c.loop.scratch.items + length made = ap length c.in_ok-flatten_all.ensures.scratch ∙ length-append c.loop.scratch.items made in
    let next = turn-bounds scope c.args.turns (stmts_view c.args.body.now) c.requires.typed c.loop.counter _ c.loop-test.true c.loop.invariant.stays in
    let listed = turn-listed _ _ _ _ _ _ c.in_ok-put_number.ensures c.in_ok-flatten_all.ensures.list in
    record {
      list = unrolled-turn (unless_left false false flags) _ _ _ _ _ c.args.turns.step _ body _ _ _ _ c.loop-test.true (omega (arith, ints, next)) (omega arith) listed ∙ c.loop.invariant.list;
      scratch = repeated-turn _ _ _ _ _ c.loop-test.true c.in_ok-flatten_all.ensures.scratch ∙ c.loop.invariant.scratch;
      stays = λ r h. stays-turn c.args.turns.count c.loop.counter _ _ c.args.turns.step r c.loop-test.true (omega (arith, ints, next)) (c.loop.invariant.stays r h);
    }

pub statements::unroll_guarded-loop-preserved : goal.statements::unroll_guarded-loop-preserved
statements::unroll_guarded-loop-preserved t c =
    let scope = c.args.scope.now in
    let flags = flags_view c.args.flags in
    let guard = guarded (was_left c.args.left.exits c.args.left.returns flags) in
    let body = flat_of_all (bodies_here scope) (owner_view scope.owner) scope.base flags (stmts_view c.args.body.now) in
    let made = scratch_of_all (bodies_here scope) (stmts_view c.args.body.now) in
    let longer : length c.flatten_all.new.scratch.items ≡ length c.loop.scratch.items + length made = ap length c.in_ok-flatten_all.ensures.scratch ∙ length-append c.loop.scratch.items made in
    let next = turn-bounds scope c.args.turns (stmts_view c.args.body.now) c.requires.typed c.loop.counter _ c.loop-test.true c.loop.invariant.stays in
    let listed = turn-guarded guard _ _ _ _ _ _ _ _ (ap flats_view c.new-turn.ensures.items) c.in_ok-put_number.ensures c.in_ok-flatten_all.ensures.list c.in_ok-put_guarded.ensures in
    record {
      list = unrolled-turn guard _ _ _ _ _ c.args.turns.step _ body _ _ _ _ c.loop-test.true (omega (arith, ints, next)) (omega arith) listed ∙ c.loop.invariant.list;
      scratch = repeated-turn _ _ _ _ _ c.loop-test.true c.in_ok-flatten_all.ensures.scratch ∙ c.loop.invariant.scratch;
      stays = λ r h. stays-turn c.args.turns.count c.loop.counter _ _ c.args.turns.step r c.loop-test.true (omega (arith, ints, next)) (c.loop.invariant.stays r h);
    }

pub statements::flatten_block-flatten_all-requires : goal.statements::flatten_block-flatten_all-requires
statements::flatten_block-flatten_all-requires t c =
    let ps = c.args.scope.now.called.now in
    let low = run-known c.args.scope.now c.args.block c.args.offset c.requires.typed in
    let is = at-number ps c.args.block c.index-scope-block.result _ (omega arith) (ap called_view c.in-Block.is) in
    let w = weight-call (all_called_view ps) c.args.block c.args.scope.now.below low in
    let m = ap called_nodes is in
    let b = ap (λ l. body_nodes (stmts_view l)) c.deref.ensures.value in
    let d : weight_here c.args.scope.now ≡ t = c.decreases in (
      omega arith,
      (
        record { few = c.requires.known.few; called = omega arith; idle = idle-first c.args.scope.now.idle.now (all_called_view ps) c.args.block c.args.scope.now.below (omega arith) c.requires.known.idle },
        block-typed c.args.scope.now c.args.block c.args.offset c.requires.typed _ _ is (ap stmts_view c.deref.ensures.value) _ refl refl refl,
      ),
    )

pub statements::flatten_block-returns-in_ok-flatten_all-clause-list : goal.statements::flatten_block-returns-in_ok-flatten_all-clause-list
statements::flatten_block-returns-in_ok-flatten_all-clause-list t c =
    let scope = c.args.scope.now in
    let ps = scope.called.now in
    let low = run-known c.args.scope.now c.args.block c.args.offset c.requires.typed in
    let is = at-number ps c.args.block c.index-scope-block.result _ (omega arith) (ap called_view c.in-Block.is) in
    list-ran (all_called_view ps) (owner_view scope.owner) c.args.block scope.below (scope.base + c.args.offset) _ _ _ _ _ _ low is (ap stmts_view c.deref.ensures.value) refl c.in_ok-flatten_all.ensures.list

pub statements::flatten_block-returns-in_ok-flatten_all-clause-scratch : goal.statements::flatten_block-returns-in_ok-flatten_all-clause-scratch
statements::flatten_block-returns-in_ok-flatten_all-clause-scratch t c =
    let scope = c.args.scope.now in
    let ps = scope.called.now in
    let low = run-known c.args.scope.now c.args.block c.args.offset c.requires.typed in
    let is = at-number ps c.args.block c.index-scope-block.result _ (omega arith) (ap called_view c.in-Block.is) in
    scratch-ran (all_called_view ps) c.args.block scope.below _ _ _ _ low is (ap stmts_view c.deref.ensures.value) c.in_ok-flatten_all.ensures.scratch

pub statements::flatten_block-returns-then-is_idle_block-clause-list : goal.statements::flatten_block-returns-then-is_idle_block-clause-list
statements::flatten_block-returns-then-is_idle_block-clause-list t c =
    let scope = c.args.scope.now in
    let low = run-known scope c.args.block c.args.offset c.requires.typed in
    let told : idle_in scope.idle.now c.args.block ≡ true = sym c.is_idle_block.ensures ∙ c.if-is_idle_block.true in
    list-idle (all_called_view scope.called.now) (owner_view scope.owner) scope.idle.now c.args.block scope.below _ _ _ c.requires.known.idle low told

pub statements::flatten_block-returns-then-is_idle_block-clause-scratch : goal.statements::flatten_block-returns-then-is_idle_block-clause-scratch
statements::flatten_block-returns-then-is_idle_block-clause-scratch t c =
    let scope = c.args.scope.now in
    let low = run-known scope c.args.block c.args.offset c.requires.typed in
    let told : idle_in scope.idle.now c.args.block ≡ true = sym c.is_idle_block.ensures ∙ c.if-is_idle_block.true in
    scratch-idle (all_called_view scope.called.now) scope.idle.now c.args.block scope.below _ c.requires.known.idle low told

pub statements::flatten_block-returns-in_default-clause-list : goal.statements::flatten_block-returns-in_default-clause-list
statements::flatten_block-returns-in_default-clause-list t c =
    let scope = c.args.scope.now in
    let ps = scope.called.now in
    let low = run-known c.args.scope.now c.args.block c.args.offset c.requires.typed in
    let is = at-number ps c.args.block c.index-scope-block.result _ (omega arith) (ap called_view c.in_default.is) in
    list-none (all_called_view ps) (owner_view scope.owner) c.args.block scope.below _ _ _ _ low is refl

pub statements::flatten_block-returns-in_default-clause-scratch : goal.statements::flatten_block-returns-in_default-clause-scratch
statements::flatten_block-returns-in_default-clause-scratch t c =
    let scope = c.args.scope.now in
    let ps = scope.called.now in
    let low = run-known c.args.scope.now c.args.block c.args.offset c.requires.typed in
    let is = at-number ps c.args.block c.index-scope-block.result _ (omega arith) (ap called_view c.in_default.is) in
    scratch-none (all_called_view ps) c.args.block scope.below _ _ low is refl

pub charts::flatten_chart-returns-clause-list : goal.charts::flatten_chart-returns-clause-list
charts::flatten_chart-returns-clause-list t c =
    let scope = c.args.scope.now in
    chart-listed (bodies_here scope) (owner_view scope.owner) scope.base scope.cells c.args.steps.now (actions_view c.args.actions.now) (transitions_view c.args.transitions.now) c.args.scratch.now.items _ _ c.in_ok-flatten_actions.ensures.scratch c.in_ok-flags.ensures.scratch
    _ _ _ _ _ _ c.in_ok-flags.flags c.in_ok-flags.ensures.place c.in_ok-put_latches.ensures c.in_ok-flatten_actions.ensures.list c.in_ok-flags.ensures.list c.in_ok-flatten_transitions.ensures.list c.in_ok-put_marks.ensures

-- ---- the parts of what is typed are

pub calls::flatten_expr-place_at-requires : goal.calls::flatten_expr-place_at-requires
calls::flatten_expr-place_at-requires t c =
    cell-placed c.args.scope.now c.in-Cell.place (subst (TypedExpression c.args.scope.now) (ap expr_view c.in-Cell.is ∙ cell-view c.in-Cell.place) c.requires.typed)

pub calls::flatten_expr-flatten_expr-requires : goal.calls::flatten_expr-flatten_expr-requires
calls::flatten_expr-flatten_expr-requires t c =
    let is : expr_view c.args.expr.now ≡ unary c.in-Unary.operator c.in-Unary.kind (expr_view c.deref.result.now) = ap expr_view c.in-Unary.is ∙ unary-view _ _ _ ∙ ap (λ (e : TypedExpr). unary c.in-Unary.operator c.in-Unary.kind (expr_view e)) (sym c.deref.ensures) in
    let d : weight_here c.args.scope.now + 4 * nodes (expr_view c.args.expr.now) ≡ t = c.decreases in
    (omega (arith, ap nodes is), (c.requires.known, unary-typed c.args.scope.now c.in-Unary.operator c.in-Unary.kind (expr_view c.deref.result.now) (subst (TypedExpression c.args.scope.now) is c.requires.typed)))

pub calls::flatten_expr-flatten_expr-requires-in-Chain : goal.calls::flatten_expr-flatten_expr-requires-in-Chain
calls::flatten_expr-flatten_expr-requires-in-Chain t c =
    let is : expr_view c.args.expr.now ≡ chain (expr_view c.deref-in-Chain.result.now) (operands_view c.in-Chain.operands.items) = ap expr_view c.in-Chain.is ∙ chain-view _ _ ∙ ap (λ (e : TypedExpr). chain (expr_view e) (operands_view c.in-Chain.operands.items)) (sym c.deref-in-Chain.ensures) in
    let d : weight_here c.args.scope.now + 4 * nodes (expr_view c.args.expr.now) ≡ t = c.decreases in
    (omega (arith, ap nodes is), (c.requires.known, first-typed c.args.scope.now _ _ (subst (TypedExpression c.args.scope.now) is c.requires.typed)))

pub calls::flatten_expr-flatten_operands-requires : goal.calls::flatten_expr-flatten_operands-requires
calls::flatten_expr-flatten_operands-requires t c =
    let is : expr_view c.args.expr.now ≡ chain (expr_view c.in-Chain.first.value) (operands_view c.deref-in-Chain-2.result.now) = ap expr_view c.in-Chain.is ∙ chain-view _ _ ∙ ap (λ (os : List Operand). chain (expr_view c.in-Chain.first.value) (operands_view os)) (sym c.deref-in-Chain-2.ensures.value) in
    let d : weight_here c.args.scope.now + 4 * nodes (expr_view c.args.expr.now) ≡ t = c.decreases in
    (omega (arith, ap nodes is), (c.requires.known, operands-typed c.args.scope.now _ _ (subst (TypedExpression c.args.scope.now) is c.requires.typed)))

pub calls::flatten_expr-flatten_exprs-requires : goal.calls::flatten_expr-flatten_exprs-requires
calls::flatten_expr-flatten_exprs-requires t c =
    let is : expr_view c.args.expr.now ≡ call_standard c.in-CallStandard.function c.in-CallStandard.kind (arguments_view c.deref-in-CallStandard.result.now) = ap expr_view c.in-CallStandard.is ∙ standard-view _ _ _ ∙ ap (λ (es : List TypedExpr). call_standard c.in-CallStandard.function c.in-CallStandard.kind (arguments_view es)) (sym c.deref-in-CallStandard.ensures.value) in
    let d : weight_here c.args.scope.now + 4 * nodes (expr_view c.args.expr.now) ≡ t = c.decreases in
    (omega (arith, ap nodes is), (c.requires.known, standard-typed c.args.scope.now c.in-CallStandard.function c.in-CallStandard.kind (arguments_view c.deref-in-CallStandard.result.now) (subst (TypedExpression c.args.scope.now) is c.requires.typed)))

pub calls::flatten_expr-flatten_answer-requires : goal.calls::flatten_expr-flatten_answer-requires
calls::flatten_expr-flatten_answer-requires t c =
    let is : expr_view c.args.expr.now ≡ call_function c.in-CallFunction.function (arguments_view c.deref-in-CallFunction.result.now) = ap expr_view c.in-CallFunction.is ∙ function-view _ _ ∙ ap (λ (es : List TypedExpr). call_function c.in-CallFunction.function (arguments_view es)) (sym c.deref-in-CallFunction.ensures.value) in
    let d : weight_here c.args.scope.now + 4 * nodes (expr_view c.args.expr.now) ≡ t = c.decreases in
    (omega (arith, ap nodes is), (c.requires.known, subst (TypedExpression c.args.scope.now) is c.requires.typed))

pub calls::flatten_operands-flatten_expr-requires : goal.calls::flatten_operands-flatten_expr-requires
calls::flatten_operands-flatten_expr-requires t c =
    let item = c.operand-item.result in
    let is : (operand_view (get_or c.args.operands.now c.loop-operand.operand-index item)).2 ≡ expr_view item.right = ap (λ (o : Operand). (operand_view o).2) (sym c.operand-item.is) ∙ ap (λ (d : OperandData). d.2) (operand_view-out item) in
    let d : weight_here c.args.scope.now + 4 * operand_nodes (operands_view c.args.operands.now) ≡ t = c.decreases in
    let left = left-operands c.args.operands.now c.loop-operand.operand-index item item c.loop-operand-test.true (sym c.operand-item.is) ∙ ap (λ (y : OperandData). operand y.0 y.1 y.2 (operands_view (drop (c.loop-operand.operand-index + 1) c.args.operands.now))) (operand_view-out item) in
    (omega (arith, ap operand_nodes left, c.loop-operand.invariant.weighs), (c.requires.known, mapped c.requires.typed (λ pous b h. subst (HasType pous b) is (operand-typed pous b c.args.operands.now c.loop-operand.operand-index item _ _ c.loop-operand-test.true h.2))))

pub calls::flatten_exprs-flatten_expr-requires : goal.calls::flatten_exprs-flatten_expr-requires
calls::flatten_exprs-flatten_expr-requires t c =
    let item = c.expr-item.result in
    let d : weight_here c.args.scope.now + 4 * all_nodes (arguments_view c.args.list.now) ≡ t = c.decreases in
    let left = left-expressions c.args.list.now c.loop-expr.expr-index item item c.loop-expr-test.true (sym c.expr-item.is) in
    (omega (arith, ap all_nodes left, c.loop-expr.invariant.weighs), (c.requires.known, mapped c.requires.typed (λ pous b h. subst (λ (e : TypedExpr). HasType pous b (expr_view e)) (sym c.expr-item.is) (expression-typed pous b c.args.list.now c.loop-expr.expr-index item _ _ c.loop-expr-test.true h.2))))

pub calls::flatten_inputs-flatten_expr-requires : goal.calls::flatten_inputs-flatten_expr-requires
calls::flatten_inputs-flatten_expr-requires t c =
    let item = c.input-item.result in
    let d : weight_here c.args.scope.now + 4 * all_nodes (arguments_view c.args.inputs.now) ≡ t = c.decreases in
    let left = left-expressions c.args.inputs.now c.loop-input.input-index item item c.loop-input-test.true (sym c.input-item.is) in
    (omega (arith, ap all_nodes left, c.loop-input.invariant.weighs), (c.requires.known, mapped c.requires.typed (λ pous b h. subst (λ (e : TypedExpr). HasType pous b (expr_view e)) (sym c.input-item.is) (input-typed pous b c.args.inputs.now c.loop-input.input-index item _ _ c.loop-input-test.true h))))

pub calls::flatten_answer-bounds-scope-function : goal.calls::flatten_answer-bounds-scope-function
calls::flatten_answer-bounds-scope-function t c =
    let low = call-known c.args.scope.now c.args.function (arguments_view c.args.inputs.now) c.requires.typed in
    omega (arith, low, c.requires.known.called)

pub calls::flatten_answer-offset_bounds-scope-function : goal.calls::flatten_answer-offset_bounds-scope-function
calls::flatten_answer-offset_bounds-scope-function t c =
    let low = call-known c.args.scope.now c.args.function (arguments_view c.args.inputs.now) c.requires.typed in
    let here : c.args.function < length c.args.scope.now.called.now = omega (arith, low, c.requires.known.called) in
    search rules

pub calls::flatten_answer-unreachable-requires : goal.calls::flatten_answer-unreachable-requires
calls::flatten_answer-unreachable-requires t c =
    let ps = c.args.scope.now.called.now in
    let low = call-known c.args.scope.now c.args.function (arguments_view c.args.inputs.now) c.requires.typed in
    let is = at-number ps c.args.function c.index-scope-function.result _ (omega arith) (ap called_view c.in_default.is) in
    no-block c.args.scope.now c.args.function (arguments_view c.args.inputs.now) c.requires.typed _ is

pub calls::flatten_answer-flatten_inputs-requires : goal.calls::flatten_answer-flatten_inputs-requires
calls::flatten_answer-flatten_inputs-requires t c =
    let ps = c.args.scope.now.called.now in
    let low = call-known c.args.scope.now c.args.function (arguments_view c.args.inputs.now) c.requires.typed in
    let is = at-number ps c.args.function c.index-scope-function.result _ (omega arith) (ap called_view c.in-Function.is) in
    (search rules, (c.requires.known, inputs-typed c.args.scope.now c.args.function (arguments_view c.args.inputs.now) c.requires.typed _ is))

pub statements::flatten_all-flatten_one-requires : goal.statements::flatten_all-flatten_one-requires
statements::flatten_all-flatten_one-requires t c =
    let item = c.stmt-item.result in
    let d : weight_here c.args.scope.now + 4 * body_nodes (stmts_view c.args.list.now) ≡ t = c.decreases in
    let left = left-statements c.args.list.now c.loop-stmt.stmt-index item item c.loop-stmt-test.true (sym c.stmt-item.is) in
    (omega (arith, ap body_nodes left, c.loop-stmt.invariant.weighs), (c.requires.known, mapped c.requires.typed (λ pous b h. subst (λ (s : TypedStmt). IsTypedPart pous b (stmt_view s)) (sym c.stmt-item.is) (statement-typed pous b c.args.list.now c.loop-stmt.stmt-index item c.loop-stmt-test.true h))))

pub statements::flatten_one-flatten_expr-requires : goal.statements::flatten_one-flatten_expr-requires
statements::flatten_one-flatten_expr-requires t c =
    let is : stmt_view c.args.stmt.now ≡ assign c.in-Assign.target (expr_view c.in-Assign.expr) = ap stmt_view c.in-Assign.is ∙ assign-view _ _ in
    let d : weight_here c.args.scope.now + 4 * statement_nodes (stmt_view c.args.stmt.now) ≡ t = c.decreases in
    (omega (arith, ap statement_nodes is), (c.requires.known, mapped (subst (TypedPart c.args.scope.now) is c.requires.typed) (λ pous b h. (_, h.1.0))))

pub statements::flatten_one-place_at-target-requires : goal.statements::flatten_one-place_at-target-requires
statements::flatten_one-place_at-target-requires t c =
    target-placed c.args.scope.now c.in-Assign.target _ (subst (TypedPart c.args.scope.now) (ap stmt_view c.in-Assign.is ∙ assign-view _ _) c.requires.typed)

pub statements::flatten_one-flatten_block-requires : goal.statements::flatten_one-flatten_block-requires
statements::flatten_one-flatten_block-requires t c =
    let is : stmt_view c.args.stmt.now ≡ call_block c.in-CallBlock.block c.in-CallBlock.offset = ap stmt_view c.in-CallBlock.is ∙ run-view _ _ in
    let d : weight_here c.args.scope.now + 4 * statement_nodes (stmt_view c.args.stmt.now) ≡ t = c.decreases in
    (omega (arith, ap statement_nodes is), (c.requires.known, mapped (subst (TypedPart c.args.scope.now) is c.requires.typed) (λ pous b h. h)))

pub statements::flatten_one-flatten_arms-requires : goal.statements::flatten_one-flatten_arms-requires
statements::flatten_one-flatten_arms-requires t c =
    let is : stmt_view c.args.stmt.now ≡ choice (choices_view c.deref.result.now) (stmts_view c.in-If.other.items) = ap stmt_view c.in-If.is ∙ if-view _ _ ∙ ap (λ (arms : List TypedArm). choice (choices_view arms) (stmts_view c.in-If.other.items)) (sym c.deref.ensures.value) in
    let d : weight_here c.args.scope.now + 4 * statement_nodes (stmt_view c.args.stmt.now) ≡ t = c.decreases in
    (omega (arith, ap statement_nodes is), (c.requires.known, mapped (subst (TypedPart c.args.scope.now) is c.requires.typed) (λ pous b h. h.0)))

pub statements::flatten_one-flatten_all-requires : goal.statements::flatten_one-flatten_all-requires
statements::flatten_one-flatten_all-requires t c =
    let is : stmt_view c.args.stmt.now ≡ choice (choices_view c.in-If.arms.items) (stmts_view c.deref-in-If.result.now) = ap stmt_view c.in-If.is ∙ if-view _ _ ∙ ap (λ (list : List TypedStmt). choice (choices_view c.in-If.arms.items) (stmts_view list)) (sym c.deref-in-If.ensures.value) in
    let d : weight_here c.args.scope.now + 4 * statement_nodes (stmt_view c.args.stmt.now) ≡ t = c.decreases in
    (omega (arith, ap statement_nodes is), (c.requires.known, mapped (subst (TypedPart c.args.scope.now) is c.requires.typed) (λ pous b h. parts-typed pous b (stmts_view c.deref-in-If.result.now) h.1)))

pub statements::flatten_one-flatten_case-requires : goal.statements::flatten_one-flatten_case-requires
statements::flatten_one-flatten_case-requires t c =
    let is : stmt_view c.args.stmt.now ≡ cases c.in-Case.kind (expr_view c.in-Case.selector) (entries_view c.deref-in-Case.result.now) (stmts_view c.deref-in-Case-2.result.now) = ap stmt_view c.in-Case.is ∙ case-view _ _ _ _ ∙ ap (λ (es : List TypedEntry). cases c.in-Case.kind (expr_view c.in-Case.selector) (entries_view es) (stmts_view c.in-Case.other.items)) (sym c.deref-in-Case.ensures.value) ∙ ap (λ (list : List TypedStmt). cases c.in-Case.kind (expr_view c.in-Case.selector) (entries_view c.deref-in-Case.result.now) (stmts_view list)) (sym c.deref-in-Case-2.ensures.value) in
    let d : weight_here c.args.scope.now + 4 * statement_nodes (stmt_view c.args.stmt.now) ≡ t = c.decreases in
    (omega (arith, ap statement_nodes is), (c.requires.known, mapped (subst (TypedPart c.args.scope.now) is c.requires.typed) (λ pous b h. h)))

pub statements::flatten_one-flatten_for-requires : goal.statements::flatten_one-flatten_for-requires
statements::flatten_one-flatten_for-requires t c =
    let is : stmt_view c.args.stmt.now ≡ repeat c.in-For.turns (stmts_view c.deref-in-For.result.now) = ap stmt_view c.in-For.is ∙ for-view _ _ ∙ ap (λ (list : List TypedStmt). repeat c.in-For.turns (stmts_view list)) (sym c.deref-in-For.ensures.value) in
    let d : weight_here c.args.scope.now + 4 * statement_nodes (stmt_view c.args.stmt.now) ≡ t = c.decreases in
    (omega (arith, ap statement_nodes is), (c.requires.known, mapped (subst (TypedPart c.args.scope.now) is c.requires.typed) (λ pous b h. h)))

pub statements::flatten_one-flatten_body-requires : goal.statements::flatten_one-flatten_body-requires
statements::flatten_one-flatten_body-requires t c =
    let is : stmt_view c.args.stmt.now ≡ own_body (stmts_view c.deref-in-Body.result.now) = ap stmt_view c.in-Body.is ∙ body-view _ ∙ ap (λ (list : List TypedStmt). own_body (stmts_view list)) (sym c.deref-in-Body.ensures.value) in
    let d : weight_here c.args.scope.now + 4 * statement_nodes (stmt_view c.args.stmt.now) ≡ t = c.decreases in
    (omega (arith, ap statement_nodes is), (c.requires.known, mapped (subst (TypedPart c.args.scope.now) is c.requires.typed) (λ pous b h. h)))

pub statements::flatten_one-flatten_chart-requires : goal.statements::flatten_one-flatten_chart-requires
statements::flatten_one-flatten_chart-requires t c =
    let is : stmt_view c.args.stmt.now ≡ chart c.deref-in-Chart.result.now (actions_view c.deref-in-Chart-2.result.now) (transitions_view c.deref-in-Chart-3.result.now) = ap stmt_view c.in-Chart.is ∙ chart-view _ _ _ ∙ ap (λ (steps : List StepCells). chart steps (actions_view c.in-Chart.actions.items) (transitions_view c.in-Chart.transitions.items)) (sym c.deref-in-Chart.ensures.value) ∙ ap (λ (list : List TypedAction). chart c.deref-in-Chart.result.now (actions_view list) (transitions_view c.in-Chart.transitions.items)) (sym c.deref-in-Chart-2.ensures.value) ∙ ap (λ (ts : List TypedTransition). chart c.deref-in-Chart.result.now (actions_view c.deref-in-Chart-2.result.now) (transitions_view ts)) (sym c.deref-in-Chart-3.ensures.value) in
    let d : weight_here c.args.scope.now + 4 * statement_nodes (stmt_view c.args.stmt.now) ≡ t = c.decreases in
    (omega (arith, ap statement_nodes is), (c.requires.known, mapped (subst (TypedPart c.args.scope.now) is c.requires.typed) (λ pous b h. h)))

pub statements::flatten_case-flatten_expr-requires : goal.statements::flatten_case-flatten_expr-requires
statements::flatten_case-flatten_expr-requires t c = (search rules, (c.requires.known, mapped c.requires.typed (λ pous b h. (_, h.0))))

pub statements::flatten_case-flatten_entries-requires : goal.statements::flatten_case-flatten_entries-requires
statements::flatten_case-flatten_entries-requires t c = (search rules, (c.requires.known, mapped c.requires.typed (λ pous b h. h.1)))

pub statements::flatten_case-flatten_all-requires : goal.statements::flatten_case-flatten_all-requires
statements::flatten_case-flatten_all-requires t c = (search rules, (c.requires.known, mapped c.requires.typed (λ pous b h. parts-typed pous b (stmts_view c.args.other.now) h.2)))

pub statements::flatten_block-bounds-scope-block : goal.statements::flatten_block-bounds-scope-block
statements::flatten_block-bounds-scope-block t c =
    let low = run-known c.args.scope.now c.args.block c.args.offset c.requires.typed in
    omega (arith, low, c.requires.known.called)

pub statements::flatten_block-offset_bounds-scope-block : goal.statements::flatten_block-offset_bounds-scope-block
statements::flatten_block-offset_bounds-scope-block t c =
    let low = run-known c.args.scope.now c.args.block c.args.offset c.requires.typed in
    let here : c.args.block < length c.args.scope.now.called.now = omega (arith, low, c.requires.known.called) in
    search rules

pub statements::flatten_block-overflow_add-instance : goal.statements::flatten_block-overflow_add-instance
statements::flatten_block-overflow_add-instance t c =
    let placed = run-placed c.args.scope.now c.args.block c.args.offset c.requires.typed in
    omega (arith, placed)

pub statements::flatten_arms-flatten_arm-requires : goal.statements::flatten_arms-flatten_arm-requires
statements::flatten_arms-flatten_arm-requires t c =
    let item = c.arm-item.result in
    let d : weight_here c.args.scope.now + 4 * choice_nodes (choices_view c.args.arms.now) ≡ t = c.decreases in
    let left = left-choices c.args.arms.now c.loop-arm.arm-index item item c.loop-arm-test.true (sym c.arm-item.is) in
    (omega (arith, ap choice_nodes left, c.loop-arm.invariant.weighs), (c.requires.known, mapped c.requires.typed (λ pous b h. subst (λ (a : TypedArm). HasType pous b (arm_view a).0 × AreTyped pous b (arm_view a).1) (sym c.arm-item.is) (arm-typed pous b c.args.arms.now c.loop-arm.arm-index item c.loop-arm-test.true h))))

pub statements::flatten_arm-flatten_expr-requires : goal.statements::flatten_arm-flatten_expr-requires
statements::flatten_arm-flatten_expr-requires t c =
    let is = arm_view-out c.args.arm.now in
    let d : weight_here c.args.scope.now + 4 * (nodes (arm_view c.args.arm.now).0 + body_nodes (arm_view c.args.arm.now).1) + 2 ≡ t = c.decreases in
    (omega (arith, ap (λ (a : ChoiceData). nodes a.0) is), (c.requires.known, mapped c.requires.typed (λ pous b h. subst (λ (a : ChoiceData). HasType pous b a.0) is h.0)))

pub statements::flatten_arm-flatten_all-requires : goal.statements::flatten_arm-flatten_all-requires
statements::flatten_arm-flatten_all-requires t c =
    let is = arm_view-out c.args.arm.now in
    let same : (arm_view c.args.arm.now).1 ≡ stmts_view c.deref.result.now = ap (λ (a : ChoiceData). a.1) is ∙ ap stmts_view (sym c.deref.ensures.value) in
    let d : weight_here c.args.scope.now + 4 * (nodes (arm_view c.args.arm.now).0 + body_nodes (arm_view c.args.arm.now).1) + 2 ≡ t = c.decreases in
    (omega (arith, ap body_nodes same), (c.requires.known, mapped c.requires.typed (λ pous b h. parts-typed pous b (stmts_view c.deref.result.now) (subst (AreTyped pous b) same h.1))))

pub statements::flatten_entries-flatten_all-requires : goal.statements::flatten_entries-flatten_all-requires
statements::flatten_entries-flatten_all-requires t c =
    let item = c.entry-item.result in
    let i = c.loop-entry.entry-index in
    let same : (entry_view (get_or c.args.entries.now i item)).1 ≡ stmts_view c.deref.result.now = ap (λ (e : TypedEntry). (entry_view e).1) (sym c.entry-item.is) ∙ ap (λ (e : EntryData). e.1) (entry_view-out item) ∙ ap stmts_view (sym c.deref.ensures.value) in
    let left = left-entries c.args.entries.now i item (get_or c.args.entries.now i item) c.loop-entry-test.true refl in
    let d : weight_here c.args.scope.now + 4 * entry_nodes (entries_view c.args.entries.now) ≡ t = c.decreases in
    (omega (arith, ap body_nodes same, ap entry_nodes left, c.loop-entry.invariant.weighs), (c.requires.known, mapped c.requires.typed (λ pous b h. parts-typed pous b (stmts_view c.deref.result.now) (subst (AreTyped pous b) same (entry-typed pous b c.args.entries.now i item c.args.kind c.loop-entry-test.true h)))))

pub statements::unroll-place_at-control-requires : goal.statements::unroll-place_at-control-requires
statements::unroll-place_at-control-requires t c = control-placed c.args.scope.now c.args.turns (stmts_view c.args.body.now) c.requires.typed

pub statements::unroll-flatten_all-requires : goal.statements::unroll-flatten_all-requires
statements::unroll-flatten_all-requires t c = (search rules, (c.requires.known, mapped c.requires.typed (λ pous b h. parts-typed pous b (stmts_view c.args.body.now) h.2)))

pub statements::unroll-overflow_add-value : goal.statements::unroll-overflow_add-value
statements::unroll-overflow_add-value t c =
    let next = turn-bounds c.args.scope.now c.args.turns (stmts_view c.args.body.now) c.requires.typed c.loop.counter _ c.loop-test.true c.loop.invariant.stays in
    omega (arith, ints, next)

pub statements::unroll-loop-init : goal.statements::unroll-loop-init
statements::unroll-loop-init t c = record {
  list = search (rules, ints);
  scratch = search (rules, ints);
  stays = λ r h. stays-first c.args.turns.count _ _ c.args.turns.first c.args.turns.step r (omega arith) (omega (arith, ints)) h;
}

pub statements::unroll_guarded-place_at-control-requires : goal.statements::unroll_guarded-place_at-control-requires
statements::unroll_guarded-place_at-control-requires t c = control-placed c.args.scope.now c.args.turns (stmts_view c.args.body.now) c.requires.typed

pub statements::unroll_guarded-flatten_all-requires : goal.statements::unroll_guarded-flatten_all-requires
statements::unroll_guarded-flatten_all-requires t c = (search rules, (c.requires.known, mapped c.requires.typed (λ pous b h. parts-typed pous b (stmts_view c.args.body.now) h.2)))

pub statements::unroll_guarded-overflow_add-value : goal.statements::unroll_guarded-overflow_add-value
statements::unroll_guarded-overflow_add-value t c =
    let next = turn-bounds c.args.scope.now c.args.turns (stmts_view c.args.body.now) c.requires.typed c.loop.counter _ c.loop-test.true c.loop.invariant.stays in
    omega (arith, ints, next)

pub statements::unroll_guarded-loop-init : goal.statements::unroll_guarded-loop-init
statements::unroll_guarded-loop-init t c = record {
  list = search (rules, ints);
  scratch = search (rules, ints);
  stays = λ r h. stays-first c.args.turns.count _ _ c.args.turns.first c.args.turns.step r (omega arith) (omega (arith, ints)) h;
}

pub statements::flatten_body-flatten_all-requires : goal.statements::flatten_body-flatten_all-requires
statements::flatten_body-flatten_all-requires t c = (search rules, (c.requires.known, mapped c.requires.typed (λ pous b h. parts-typed pous b (stmts_view c.args.body.now) h)))

pub charts::flatten_chart-put_latches-requires-clause-steps : goal.charts::flatten_chart-put_latches-requires-clause-steps
charts::flatten_chart-put_latches-requires-clause-steps t c = chart-steps-placed c.args.scope.now c.args.steps.now (actions_view c.args.actions.now) (transitions_view c.args.transitions.now) c.requires.typed

pub charts::flatten_chart-put_latches-requires-clause-latches : goal.charts::flatten_chart-put_latches-requires-clause-latches
charts::flatten_chart-put_latches-requires-clause-latches t c = chart-latches-placed c.args.scope.now c.args.steps.now (actions_view c.args.actions.now) (transitions_view c.args.transitions.now) c.requires.typed

pub charts::flatten_chart-flatten_actions-requires : goal.charts::flatten_chart-flatten_actions-requires
charts::flatten_chart-flatten_actions-requires t c =
    let placed = chart-steps-placed c.args.scope.now c.args.steps.now (actions_view c.args.actions.now) (transitions_view c.args.transitions.now) c.requires.typed in
    let latches = chart-latches-placed c.args.scope.now c.args.steps.now (actions_view c.args.actions.now) (transitions_view c.args.transitions.now) c.requires.typed in
    (search rules, (c.requires.known, (placed, (latches, mapped c.requires.typed (λ pous b h. h.2)))))

pub charts::flatten_chart-flatten_transitions-requires : goal.charts::flatten_chart-flatten_transitions-requires
charts::flatten_chart-flatten_transitions-requires t c =
    let placed = chart-steps-placed c.args.scope.now c.args.steps.now (actions_view c.args.actions.now) (transitions_view c.args.transitions.now) c.requires.typed in
    (search rules, (c.requires.known, (placed, (c.in_ok-flags.ensures.room, mapped c.requires.typed (λ pous b h. h.3)))))

pub charts::flatten_chart-put_marks-requires-clause-steps : goal.charts::flatten_chart-put_marks-requires-clause-steps
charts::flatten_chart-put_marks-requires-clause-steps t c = chart-steps-placed c.args.scope.now c.args.steps.now (actions_view c.args.actions.now) (transitions_view c.args.transitions.now) c.requires.typed

pub charts::flatten_actions-flatten_action-requires : goal.charts::flatten_actions-flatten_action-requires
charts::flatten_actions-flatten_action-requires t c =
    let item = c.action-item.result in
    let base = c.args.scope.now.base in
    let latch = subst (λ (a : TypedAction). IfSome (action_view a).0 (HasPlace base)) (sym c.action-item.is) (latch-placed (HasPlace base) c.args.actions.now c.loop-action.action-index item c.loop-action-test.true c.requires.latches) in
    let typed = mapped c.requires.typed (λ pous b h. subst (λ (a : TypedAction). AreTyped pous b (action_view a).2) (sym c.action-item.is) (action-typed pous b c.args.actions.now c.loop-action.action-index item _ c.loop-action-test.true h)) in
    let d : weight_here c.args.scope.now + 4 * action_nodes (actions_view c.args.actions.now) ≡ t = c.decreases in
    let left = left-actions c.args.actions.now c.loop-action.action-index item item c.loop-action-test.true (sym c.action-item.is) in
    (omega (arith, ap action_nodes left, c.loop-action.invariant.weighs), (c.requires.known, (c.requires.steps, (latch, typed))))

pub charts::flatten_action-flatten_all-requires : goal.charts::flatten_action-flatten_all-requires
charts::flatten_action-flatten_all-requires t c =
    let same : (action_view c.args.action.now).2 ≡ stmts_view c.deref-2.result.now = ap (λ (a : ActionData). a.2) (action_view-out c.args.action.now) ∙ ap stmts_view (sym c.deref-2.ensures.value) in
    let d : weight_here c.args.scope.now + 4 * body_nodes (action_view c.args.action.now).2 + 2 ≡ t = c.decreases in
    (omega (arith, ap body_nodes same), (c.requires.known, mapped c.requires.typed (λ pous b h. parts-typed pous b (stmts_view c.deref-2.result.now) (subst (AreTyped pous b) same h))))

pub charts::flatten_transitions-flatten_transition-requires : goal.charts::flatten_transitions-flatten_transition-requires
charts::flatten_transitions-flatten_transition-requires t c =
    let item = c.transition-item.result in
    let i = c.loop-transition.transition-index in
    let n = length c.args.steps.now in
    let its = opened (mapped c.requires.typed (λ pous b h. transition-typed pous b c.args.transitions.now i item n c.loop-transition-test.true h)) in
    let back = λ (P : TypedTransition → Type 0) (p : P (get_or c.args.transitions.now i item)). subst P (sym c.transition-item.is) p in
    let from = back (λ tr. FlagsHavePlaces c.args.flags (transition_view tr).from) (flags-placed c.args.flags n _ c.requires.flags its.claim.1) in
    let to = back (λ tr. FlagsHavePlaces c.args.flags (transition_view tr).to) (flags-placed c.args.flags n _ c.requires.flags its.claim.2) in
    let left = left-transitions c.args.transitions.now i item item c.loop-transition-test.true (sym c.transition-item.is) in
    let d : weight_here c.args.scope.now + 4 * transition_nodes (transitions_view c.args.transitions.now) ≡ t = c.decreases in
    let typed = back (λ tr. IsTypedOver c.args.scope.now (λ pous b. HasType pous b (transition_view tr).condition)) (mapped c.requires.typed (λ pous b h. (transition-typed pous b c.args.transitions.now i item n c.loop-transition-test.true h).0)) in
    (omega (arith, ap transition_nodes left, c.loop-transition.invariant.weighs), (c.requires.known, (c.requires.steps, (from, (to, typed)))))

pub charts::flatten_transition-flatten_expr-requires : goal.charts::flatten_transition-flatten_expr-requires
charts::flatten_transition-flatten_expr-requires t c = (search rules, (c.requires.known, c.requires.typed))
