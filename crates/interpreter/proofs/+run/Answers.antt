use Rattle.std.proofs.Common.{rules, tests, to_z, of_z, ◌∷◌, ◌≡◌, ◌≢◌, ◌+◌, ◌*◌, ◌+ℤ◌, arith, refl, sym, subst, ap, ◌∙◌, ℤ, length, take}
use Rattle.std.specs.Int.{w128}
use Rattle.std.proofs.lemmas.Int.{ints}
use Rattle.std.proofs.lemmas.List.{length-take-le}
use Rattle.program_tree.specs.declared.typed.TypedStmt.TheFolds.{fold-roll-TypedStmt}
use Rattle.program_tree.specs.declared.typed.TypedStmt.TheVariants.{rolls-Chart}
use Rattle.program_tree.specs.Tree.{Statement, chart}
use Rattle.program_tree.specs.View.{ActionData, ChoiceData, EntryData, stmt_step, action_step, arm_step, entry_step, expr_view, arguments_view, stmt_view, stmts_view, actions_view, transitions_view, called_view, all_called_view}
use Rattle.meaning.specs.Values.{answer_in, fault_in, value_of, values_of}
use Rattle.meaning.specs.Effects.{on, returned, effect_of, effect_of_all}
use Rattle.meaning.specs.Calls.{given}
use Rattle.meaning.specs.Room.{room_of, markings_in_all}
use Rattle.interpreter.specs.Scopes.{callees_here, cells_read}
use Rattle.interpreter.specs.Turning.{value_after, StandsFor}
use Rattle.interpreter.proofs.Turning.{next_after}
use Rattle.operations.proofs.Calls.{called_is}
use Rattle.meaning.proofs.Sizes.{all_nodes, body_nodes, called_nodes}
use Rattle.interpreter.proofs.Weights.{weight_here}
use Rattle.meaning.proofs.Callees.{at-number, runs-unknown, ends-unknown, weight-call, room-call, function-ran, block-answers, block-ran, function-runs, effect_of_turns-turn, either-same}
use Rattle.interpreter.proofs.Endings.{state-left}
use Rattle.interpreter.proofs.Given.{given-more}
use Rattle.meaning.proofs.Firing.{chart-ran, chart-same}
use Rattle.interpreter.proofs.+run.Goals.{evaluation::evaluate_call-in_default-via-then-operands-lt1, evaluation::evaluate_call-in_default-via-else-operands-lt1+else-operands-lt2+then-operands-lt3, evaluation::evaluate_call-in_default-via-else-operands-lt1+else-operands-lt2+else-operands-lt3+else-operands-lt4}
use Rattle.interpreter.proofs.+run.Goals as goal

pub evaluation::evaluate_call-returns-in_default-clause-value : goal.evaluation::evaluate_call-returns-in_default-clause-value
evaluation::evaluate_call-returns-in_default-clause-value t c =
    let not_one : length c.args.operands.now ≢ 1 = λ e. elim c.in_default.branch [ evaluation::evaluate_call-in_default-via-then-operands-lt1 w ↦ search (rules, tests) | evaluation::evaluate_call-in_default-via-else-operands-lt1+else-operands-lt2+then-operands-lt3 w ↦ search (rules, tests) | evaluation::evaluate_call-in_default-via-else-operands-lt1+else-operands-lt2+else-operands-lt3+else-operands-lt4 w ↦ search (rules, tests) ] in
    let not_three : length c.args.operands.now ≢ 3 = λ e. elim c.in_default.branch [ evaluation::evaluate_call-in_default-via-then-operands-lt1 w ↦ search (rules, tests) | evaluation::evaluate_call-in_default-via-else-operands-lt1+else-operands-lt2+then-operands-lt3 w ↦ search (rules, tests) | evaluation::evaluate_call-in_default-via-else-operands-lt1+else-operands-lt2+else-operands-lt3+else-operands-lt4 w ↦ search (rules, tests) ] in
    let scope = c.args.reading.now.scope.now in
    called_is (callees_here scope) scope.base c.args.function c.args.kind c.args.operands.now (cells_read c.args.reading.now) _ _ not_one not_three c.evaluate_joined-whole.ensures.value c.wrapped.ensures.value

pub answers::answer-fill-fault-requires : goal.answers::answer-fill-fault-requires
answers::answer-fill-fault-requires t c =
    let ps = c.args.reading.now.scope.now.called.now in
    let is = at-number ps c.args.function c.index-reading-function.result _ (omega arith) (ap called_view c.in-Function.is) in
    let r = room-call (all_called_view ps) c.args.function c.args.reading.now.scope.now.below c.if-function-reading.true in
    let k = ap room_of is in
    let l = ap length c.as_slice-start.ensures.value in
    let d : weight_here c.args.reading.now.scope.now + 2 * all_nodes (arguments_view c.args.inputs.now) + 2 ≡ t = c.decreases in
    (omega arith, (omega arith, (omega arith, (omega arith, (omega arith, (omega arith, omega arith))))))

pub answers::answer-split_at_mut-own-requires : goal.answers::answer-split_at_mut-own-requires
answers::answer-split_at_mut-own-requires t c =
    let ps = c.args.reading.now.scope.now.called.now in
    let is = at-number ps c.args.function c.index-reading-function.result _ (omega arith) (ap called_view c.in-Function.is) in
    let r = room-call (all_called_view ps) c.args.function c.args.reading.now.scope.now.below c.if-function-reading.true in
    let k = ap room_of is in
    let l = ap length c.as_slice-start.ensures.value in
    omega arith

pub answers::answer-run_all-requires : goal.answers::answer-run_all-requires
answers::answer-run_all-requires t c =
    let ps = c.args.reading.now.scope.now.called.now in
    let is = at-number ps c.args.function c.index-reading-function.result _ (omega arith) (ap called_view c.in-Function.is) in
    let r = room-call (all_called_view ps) c.args.function c.args.reading.now.scope.now.below c.if-function-reading.true in
    let w = weight-call (all_called_view ps) c.args.function c.args.reading.now.scope.now.below c.if-function-reading.true in
    let k = ap room_of is in
    let m = ap called_nodes is in
    let l = ap length c.as_slice-start.ensures.value in
    let b = ap (λ l. body_nodes (stmts_view l)) c.deref.ensures.value in
    let n = ap (λ l. markings_in_all (stmts_view l)) c.deref.ensures.value in
    let d : weight_here c.args.reading.now.scope.now + 2 * all_nodes (arguments_view c.args.inputs.now) + 2 ≡ t = c.decreases in
    (omega arith, (omega arith, (omega arith, omega arith)))

pub answers::answer-returns-in-Function-clause-value : goal.answers::answer-returns-in-Function-clause-value
answers::answer-returns-in-Function-clause-value t c =
    let scope = c.args.reading.now.scope.now in
    let ps = scope.called.now in
    let is = at-number ps c.args.function c.index-reading-function.result _ (omega arith) (ap called_view c.in-Function.is) in
    let vs = values_of (callees_here scope) scope.base (arguments_view c.args.inputs.now) (cells_read c.args.reading.now) in
    let front : c.split_at_mut-own.result.0.now ≡ given c.as_slice-ranges.result.now 2 vs c.as_slice-start.result.now = c.split_at_mut-own.ensures.front ∙ c.fill-fault.ensures.state in
    c.ended.ensures.value ∙ ap answer_in (function-ran (all_called_view ps) c.args.function scope.below _ _ _ _ _ _ _ _ _ vs c.if-function-reading.true is c.as_slice-ranges.ensures.value c.as_slice-start.ensures.value (ap stmts_view c.deref.ensures.value) front (state-left _ _ _ c.run_all.ensures.effect))

pub answers::answer-returns-in-Function-clause-fault : goal.answers::answer-returns-in-Function-clause-fault
answers::answer-returns-in-Function-clause-fault t c =
    let scope = c.args.reading.now.scope.now in
    let ps = scope.called.now in
    let is = at-number ps c.args.function c.index-reading-function.result _ (omega arith) (ap called_view c.in-Function.is) in
    let vs = values_of (callees_here scope) scope.base (arguments_view c.args.inputs.now) (cells_read c.args.reading.now) in
    let front : c.split_at_mut-own.result.0.now ≡ given c.as_slice-ranges.result.now 2 vs c.as_slice-start.result.now = c.split_at_mut-own.ensures.front ∙ c.fill-fault.ensures.state in
    c.ended.ensures.fault ∙ either-same _ _ _ _ c.fill-fault.ensures.fault (ap fault_in (function-ran (all_called_view ps) c.args.function scope.below _ _ _ _ _ _ _ _ _ vs c.if-function-reading.true is c.as_slice-ranges.ensures.value c.as_slice-start.ensures.value (ap stmts_view c.deref.ensures.value) front (state-left _ _ _ c.run_all.ensures.effect)))

pub answers::answer-returns-in-Block-clause-value : goal.answers::answer-returns-in-Block-clause-value
answers::answer-returns-in-Block-clause-value t c =
    let scope = c.args.reading.now.scope.now in
    let ps = scope.called.now in
    let is = at-number ps c.args.function c.index-reading-function.result _ (omega arith) (ap called_view c.in-Block.is) in
    let vs = values_of (callees_here scope) scope.base (arguments_view c.args.inputs.now) (cells_read c.args.reading.now) in
    c.unanswered.ensures.value ∙ sym (ap answer_in (block-answers (all_called_view ps) c.args.function scope.below _ vs c.if-function-reading.true is))

pub answers::answer-returns-in-Block-clause-fault : goal.answers::answer-returns-in-Block-clause-fault
answers::answer-returns-in-Block-clause-fault t c =
    let scope = c.args.reading.now.scope.now in
    let ps = scope.called.now in
    let is = at-number ps c.args.function c.index-reading-function.result _ (omega arith) (ap called_view c.in-Block.is) in
    let vs = values_of (callees_here scope) scope.base (arguments_view c.args.inputs.now) (cells_read c.args.reading.now) in
    rw (block-answers (all_called_view ps) c.args.function scope.below _ vs c.if-function-reading.true is) (search rules)

pub answers::answer-returns-else-function-reading-clause-value : goal.answers::answer-returns-else-function-reading-clause-value
answers::answer-returns-else-function-reading-clause-value t c =
    let scope = c.args.reading.now.scope.now in
    let vs = values_of (callees_here scope) scope.base (arguments_view c.args.inputs.now) (cells_read c.args.reading.now) in
    c.unanswered-else-function-reading.ensures.value ∙ sym (ap answer_in (ends-unknown (all_called_view scope.called.now) c.args.function scope.below vs c.if-function-reading.false))

pub answers::answer-returns-else-function-reading-clause-fault : goal.answers::answer-returns-else-function-reading-clause-fault
answers::answer-returns-else-function-reading-clause-fault t c =
    let scope = c.args.reading.now.scope.now in
    let vs = values_of (callees_here scope) scope.base (arguments_view c.args.inputs.now) (cells_read c.args.reading.now) in
    rw (ends-unknown (all_called_view scope.called.now) c.args.function scope.below vs c.if-function-reading.false) (search rules)

pub answers::fill-returns-in-Some-clause-state : goal.answers::fill-returns-in-Some-clause-state
answers::fill-returns-in-Some-clause-state t c =
    let n = length c.args.start.now in
    let scope = c.args.reading.now.scope.now in
    let cells = cells_read c.args.reading.now in
    let split : c.args.inputs.now ≡ c.in-Some.first.now ∷ c.in-Some.rest.now = c.in-Some.ensures.cases.0 in
    let vs = values_of (callees_here scope) scope.base (arguments_view c.in-Some.rest.now) cells in
    let v = value_of (callees_here scope) scope.base (expr_view c.in-Some.first.now) cells in
    let all : values_of (callees_here scope) scope.base (arguments_view c.args.inputs.now) cells ≡ v ∷ vs = ap (λ l. values_of (callees_here scope) scope.base (arguments_view l) cells) split in
    let len : length c.store.new.state ≡ n = c.store.auto.state ∙ length-take-le n c.fill-fault.new.stack (omega arith) in
    let same : to_z w128 (of_z w128 c.evaluate_in-first.result.value) ≡ v = search (rules, ints) in
    given-more c.args.ranges.now c.args.place n v _ vs _ c.store.new.state _ (take n c.fill-fault.new.stack) c.args.start.now c.requires.behind_fault len same c.store.ensures c.fill-fault.ensures.state all

pub statements::run_block-run_all-requires : goal.statements::run_block-run_all-requires
statements::run_block-run_all-requires t c =
    let ps = c.args.scope.now.called.now in
    let is = at-number ps c.args.block c.index-scope-block.result _ (omega arith) (ap called_view c.in-Block.is) in
    let w = weight-call (all_called_view ps) c.args.block c.args.scope.now.below c.if-block-scope.true in
    let r = room-call (all_called_view ps) c.args.block c.args.scope.now.below c.if-block-scope.true in
    let k = ap room_of is in
    let m = ap called_nodes is in
    let b = ap (λ l. body_nodes (stmts_view l)) c.deref.ensures.value in
    let n = ap (λ l. markings_in_all (stmts_view l)) c.deref.ensures.value in
    let d : weight_here c.args.scope.now ≡ t = c.decreases in
    (omega arith, (omega arith, (omega arith, omega arith)))

pub statements::run_block-returns-in-Block-clause-state : goal.statements::run_block-returns-in-Block-clause-state
statements::run_block-returns-in-Block-clause-state t c =
    let ps = c.args.scope.now.called.now in
    let is = at-number ps c.args.block c.index-scope-block.result _ (omega arith) (ap called_view c.in-Block.is) in
    block-ran (all_called_view ps) c.args.block c.args.scope.now.below c.args.scope.now.ranges.now _ _ _ _ _ c.if-block-scope.true is (ap stmts_view c.deref.ensures.value) (state-left _ _ _ c.run_all.ensures.effect)

pub statements::run_block-returns-in_default-clause-state : goal.statements::run_block-returns-in_default-clause-state
statements::run_block-returns-in_default-clause-state t c =
    let ps = c.args.scope.now.called.now in
    let is = at-number ps c.args.block c.index-scope-block.result _ (omega arith) (ap called_view c.in_default.is) in
    function-runs (all_called_view ps) c.args.block c.args.scope.now.below _ c.args.scope.now.ranges.now _ _ _ _ _ c.if-block-scope.true is

pub statements::run_block-returns-else-block-scope-clause-state : goal.statements::run_block-returns-else-block-scope-clause-state
statements::run_block-returns-else-block-scope-clause-state t c =
    sym (runs-unknown (all_called_view c.args.scope.now.called.now) c.args.block c.args.scope.now.below _ _ _ c.if-block-scope.false)

pub statements::run-returns-in-Chart-clause-effect : goal.statements::run-returns-in-Chart-clause-effect
statements::run-returns-in-Chart-clause-effect t c =
    let scope = c.args.scope.now in
    let ran = chart-same (callees_here scope) scope.ranges.now scope.base _ _ _ _ _ _ _ _ c.deref-in-Chart.ensures.value c.deref-in-Chart-2.ensures.value c.deref-in-Chart-3.ensures.value c.run_chart.ensures.state in
    let is : stmt_view c.args.stmt.now ≡ chart c.in-Chart.steps.items (actions_view c.in-Chart.actions.items) (transitions_view c.in-Chart.transitions.items) = ap stmt_view (c.in-Chart.is ∙ sym (rolls-Chart c.in-Chart.steps c.in-Chart.actions c.in-Chart.transitions)) ∙ fold-roll-TypedStmt Statement ActionData ChoiceData EntryData stmt_step action_step arm_step entry_step _ in
    ran ∙ sym (ap (λ d. effect_of (callees_here scope) scope.ranges.now scope.base d c.args.cells.now) is)

pub turns::run_turns-loop-preserved : goal.turns::run_turns-loop-preserved
turns::run_turns-loop-preserved t c =
    let v = value_after c.args.turns.first c.args.turns.step c.loop.counter in
    let same : to_z w128 (of_z w128 c.args.turns.step) ≡ c.args.turns.step = omega (arith, ints) in
    let next : value_after c.args.turns.first c.args.turns.step (c.loop.counter + 1) ≡ v +ℤ c.args.turns.step = next_after c.args.turns.first c.args.turns.step c.loop.counter in
    record {
      rest = effect_of_turns-turn _ _ _ _ _ _ _ (effect_of_all (callees_here c.args.scope.now) c.args.scope.now.ranges.now c.args.scope.now.base (stmts_view c.args.body.now)) _ _ (on c.run_all.new.cells) _ c.loop-test.true c.range_at-range.ensures next (c.set_control.ensures c.args.turns.step v c.loop.invariant.stands) c.in-On.ensures.effect ∙ c.loop.invariant.rest;
      stands = subst (λ (x : ℤ). StandsFor c.next_value-value.result c.args.turns.step x) (sym next) (subst (λ (x : ℤ). StandsFor c.next_value-value.result x (v +ℤ x)) same (c.next_value-value.ensures v (subst (λ (x : ℤ). StandsFor c.loop.value x v) (sym same) c.loop.invariant.stands)));
      room = omega arith;
    }

pub turns::run_turns-returns-in-Return-clause-effect : goal.turns::run_turns-returns-in-Return-clause-effect
turns::run_turns-returns-in-Return-clause-effect t c =
    let v = value_after c.args.turns.first c.args.turns.step c.loop.counter in
    effect_of_turns-turn _ _ _ _ v (v +ℤ c.args.turns.step) c.args.turns.step (effect_of_all (callees_here c.args.scope.now) c.args.scope.now.ranges.now c.args.scope.now.base (stmts_view c.args.body.now)) _ _ (returned c.run_all.new.cells) _
    c.loop-test.true c.range_at-range.ensures refl (c.set_control.ensures c.args.turns.step v c.loop.invariant.stands) c.in-Return.ensures.effect ∙ c.loop.invariant.rest

pub charts::run_chart-returns-clause-state : goal.charts::run_chart-returns-clause-state
charts::run_chart-returns-clause-state t c =
    let scope = c.args.scope.now in
    chart-ran (callees_here scope) scope.ranges.now scope.base c.args.steps.now (actions_view c.args.actions.now) (transitions_view c.args.transitions.now) c.args.cells.now
    c.read_now.new.marking c.read_before.new.marking c.split_at_mut-exited.result.0.now c.split_at_mut-entered.result.0.now
    _ _ c.fire_all-fault.new.exited c.fire_all-fault.new.entered c.latch_all.new.cells c.run_actions.new.cells c.add_fault.new.state c.mark.new.cells c.fire_all-fault.result
    (omega arith) (omega arith) (omega arith)
    c.read_now.ensures c.read_before.ensures c.clear.ensures c.clear-2.ensures c.latch_all.ensures c.run_actions.ensures.state
    c.fire_all-fault.ensures.exited c.fire_all-fault.ensures.entered c.fire_all-fault.ensures.fault c.add_fault.ensures c.mark.ensures
