use Rattle.std.proofs.Common.{◌≡◌, ◌+◌, ◌-◌, ◌*◌, ◌≤◌, ◌++◌, true, false, length, drop, map}
use Rattle.plc_types.specs.declared.range.Range.{Range}
use Rattle.program_tree.specs.View.{expr_view, operand_view, operands_view, arguments_view, stmt_view, stmts_view, arm_view, choices_view, entries_view, action_view, actions_view, transition_view, transitions_view}
use Rattle.flat_core.specs.FlatView.{flats_view, flat_arms_view}
use Rattle.meaning.proofs.Sizes.{nodes, operand_nodes, all_nodes, statement_nodes, body_nodes, choice_nodes, entry_nodes, action_nodes, transition_nodes}
use Rattle.meaning.specs.StaysIn.{turns_stay}
use Rattle.flat_charts.specs.Views.{frame_view}
use Rattle.flat_charts.specs.Views.{owner_view}
use Rattle.flat_form.specs.Calls.{operand_scratch, all_scratch, input_scratch, moved_operands, all_moved, operands_before, all_before, inputs_before, input_places}
use Rattle.flat_form.specs.FlatCharts.{scratch_of_transitions, flat_transitions}
use Rattle.flat_form.specs.Unless.{was_left, guarded, unless_left}
use Rattle.flat_form.specs.FlatLists.{scratch_of_all, scratch_of_choices, scratch_of_entries, scratch_of_actions, repeated, flat_of_all, flat_choices, flat_entries, flat_actions, unrolled}
use Rattle.flat_charts.specs.Views.{bodies_here}
use Rattle.flat_form.proofs.OperandLemmas.{with_operands, with_expressions}
use Rattle.flat_laws.proofs.TurnValues.{stay_from}
use Rattle.fb_inline.specs.Leaving.{flags_view, within}
use Rattle.fb_inline.proofs.PouLemmas.{weight_here}
use Rattle.fb_inline.proofs.+flatten.Given as goal

-- what is there with what is left to come

abbrev pub invariant-calls::flatten_operands-loop-operand : goal.invariant-calls::flatten_operands-loop-operand
invariant-calls::flatten_operands-loop-operand l = record {
  value : with_operands (map operand_view l.there.items) (moved_operands (bodies_here l.scope) (owner_view l.scope.owner) l.scope.base (operands_view (drop l.operand-index l.operands)) (l.scope.cells + length l.scratch.items))
      ≡ moved_operands (bodies_here l.scope) (owner_view l.scope.owner) l.scope.base (operands_view l.operands) (l.scope.cells + length l.initial.scratch.items);
  list : flats_view l.out.items ++ operands_before (bodies_here l.scope) (owner_view l.scope.owner) l.scope.base (operands_view (drop l.operand-index l.operands)) (l.scope.cells + length l.scratch.items)
      ≡ flats_view l.initial.out.items ++ operands_before (bodies_here l.scope) (owner_view l.scope.owner) l.scope.base (operands_view l.operands) (l.scope.cells + length l.initial.scratch.items);
  scratch : l.scratch.items ++ operand_scratch (bodies_here l.scope) (operands_view (drop l.operand-index l.operands))
      ≡ l.initial.scratch.items ++ operand_scratch (bodies_here l.scope) (operands_view l.operands);
  weighs : operand_nodes (operands_view (drop l.operand-index l.operands)) ≤ operand_nodes (operands_view l.operands);
}

abbrev pub invariant-calls::flatten_exprs-loop-expr : goal.invariant-calls::flatten_exprs-loop-expr
invariant-calls::flatten_exprs-loop-expr l = record {
  value : with_expressions (map expr_view l.there.items) (all_moved (bodies_here l.scope) (owner_view l.scope.owner) l.scope.base (arguments_view (drop l.expr-index l.list)) (l.scope.cells + length l.scratch.items))
      ≡ all_moved (bodies_here l.scope) (owner_view l.scope.owner) l.scope.base (arguments_view l.list) (l.scope.cells + length l.initial.scratch.items);
  list : flats_view l.out.items ++ all_before (bodies_here l.scope) (owner_view l.scope.owner) l.scope.base (arguments_view (drop l.expr-index l.list)) (l.scope.cells + length l.scratch.items)
      ≡ flats_view l.initial.out.items ++ all_before (bodies_here l.scope) (owner_view l.scope.owner) l.scope.base (arguments_view l.list) (l.scope.cells + length l.initial.scratch.items);
  scratch : l.scratch.items ++ all_scratch (bodies_here l.scope) (arguments_view (drop l.expr-index l.list))
      ≡ l.initial.scratch.items ++ all_scratch (bodies_here l.scope) (arguments_view l.list);
  weighs : all_nodes (arguments_view (drop l.expr-index l.list)) ≤ all_nodes (arguments_view l.list);
}

abbrev pub invariant-calls::flatten_inputs-loop-input : goal.invariant-calls::flatten_inputs-loop-input
invariant-calls::flatten_inputs-loop-input l = record {
  place : l.place ≡ 2 + l.input-index;
  places : l.places.items ++ input_places (bodies_here l.scope) (arguments_view (drop l.input-index l.inputs)) (l.scope.cells + length l.scratch.items)
      ≡ input_places (bodies_here l.scope) (arguments_view l.inputs) (l.scope.cells + length l.initial.scratch.items);
  list : flats_view l.out.items ++ inputs_before (bodies_here l.scope) (owner_view l.scope.owner) l.scope.base (frame_view l.frame) l.place (arguments_view (drop l.input-index l.inputs)) (l.scope.cells + length l.scratch.items)
      ≡ flats_view l.initial.out.items ++ inputs_before (bodies_here l.scope) (owner_view l.scope.owner) l.scope.base (frame_view l.frame) 2 (arguments_view l.inputs) (l.scope.cells + length l.initial.scratch.items);
  scratch : l.scratch.items ++ input_scratch (bodies_here l.scope) (frame_view l.frame) l.place (arguments_view (drop l.input-index l.inputs))
      ≡ l.initial.scratch.items ++ input_scratch (bodies_here l.scope) (frame_view l.frame) 2 (arguments_view l.inputs);
  weighs : all_nodes (arguments_view (drop l.input-index l.inputs)) ≤ all_nodes (arguments_view l.inputs);
}

abbrev pub invariant-statements::flatten_all-loop-stmt : goal.invariant-statements::flatten_all-loop-stmt
invariant-statements::flatten_all-loop-stmt l = record {
  list : within (flags_view l.flags) l.parts.items (flats_view l.out.items ++ flat_of_all (bodies_here l.scope) (owner_view l.scope.owner) l.scope.base (flags_view l.flags) (stmts_view (drop l.stmt-index l.list)) (l.scope.cells + length l.scratch.items))
      ≡ flats_view l.initial.out.items ++ flat_of_all (bodies_here l.scope) (owner_view l.scope.owner) l.scope.base (flags_view l.flags) (stmts_view l.list) (l.scope.cells + length l.initial.scratch.items);
  scratch : l.scratch.items ++ scratch_of_all (bodies_here l.scope) (stmts_view (drop l.stmt-index l.list))
      ≡ l.initial.scratch.items ++ scratch_of_all (bodies_here l.scope) (stmts_view l.list);
  weighs : body_nodes (stmts_view (drop l.stmt-index l.list)) ≤ body_nodes (stmts_view l.list);
}

abbrev pub invariant-statements::flatten_arms-loop-arm : goal.invariant-statements::flatten_arms-loop-arm
invariant-statements::flatten_arms-loop-arm l = record {
  list : flat_arms_view l.out.items ++ flat_choices (bodies_here l.scope) (owner_view l.scope.owner) l.scope.base (flags_view l.flags) (choices_view (drop l.arm-index l.arms)) (l.scope.cells + length l.scratch.items)
      ≡ flat_arms_view l.initial.out.items ++ flat_choices (bodies_here l.scope) (owner_view l.scope.owner) l.scope.base (flags_view l.flags) (choices_view l.arms) (l.scope.cells + length l.initial.scratch.items);
  scratch : l.scratch.items ++ scratch_of_choices (bodies_here l.scope) (choices_view (drop l.arm-index l.arms))
      ≡ l.initial.scratch.items ++ scratch_of_choices (bodies_here l.scope) (choices_view l.arms);
  weighs : choice_nodes (choices_view (drop l.arm-index l.arms)) ≤ choice_nodes (choices_view l.arms);
}

abbrev pub invariant-statements::flatten_entries-loop-entry : goal.invariant-statements::flatten_entries-loop-entry
invariant-statements::flatten_entries-loop-entry l = record {
  list : flat_arms_view l.out.items ++ flat_entries (bodies_here l.scope) (owner_view l.scope.owner) l.scope.base (flags_view l.flags) l.kind l.place (entries_view (drop l.entry-index l.entries)) (l.scope.cells + length l.scratch.items)
      ≡ flat_arms_view l.initial.out.items ++ flat_entries (bodies_here l.scope) (owner_view l.scope.owner) l.scope.base (flags_view l.flags) l.kind l.place (entries_view l.entries) (l.scope.cells + length l.initial.scratch.items);
  scratch : l.scratch.items ++ scratch_of_entries (bodies_here l.scope) (entries_view (drop l.entry-index l.entries))
      ≡ l.initial.scratch.items ++ scratch_of_entries (bodies_here l.scope) (entries_view l.entries);
  weighs : entry_nodes (entries_view (drop l.entry-index l.entries)) ≤ entry_nodes (entries_view l.entries);
}

abbrev pub invariant-statements::unroll-loop : goal.invariant-statements::unroll-loop
invariant-statements::unroll-loop l = record {
  list : flats_view l.out.items
      ++ unrolled (unless_left false false (flags_view l.flags)) (l.turns.count - l.counter) l.control l.value l.turns.step (length (scratch_of_all (bodies_here l.scope) (stmts_view l.body))) (flat_of_all (bodies_here l.scope) (owner_view l.scope.owner) l.scope.base (flags_view l.flags) (stmts_view l.body)) (l.scope.cells + length l.scratch.items)
      ≡ flats_view l.initial.out.items
      ++ unrolled (unless_left false false (flags_view l.flags)) l.turns.count l.control l.turns.first l.turns.step (length (scratch_of_all (bodies_here l.scope) (stmts_view l.body))) (flat_of_all (bodies_here l.scope) (owner_view l.scope.owner) l.scope.base (flags_view l.flags) (stmts_view l.body)) (l.scope.cells + length l.initial.scratch.items);
  scratch : l.scratch.items ++ repeated (l.turns.count - l.counter) (scratch_of_all (bodies_here l.scope) (stmts_view l.body))
      ≡ l.initial.scratch.items ++ repeated l.turns.count (scratch_of_all (bodies_here l.scope) (stmts_view l.body));
  stays : (r : Range) → turns_stay l.turns r ≡ true → stay_from (l.turns.count - l.counter) l.value l.turns.step r ≡ true;
}

abbrev pub invariant-statements::unroll_guarded-loop : goal.invariant-statements::unroll_guarded-loop
invariant-statements::unroll_guarded-loop l = record {
  list : flats_view l.out.items
      ++ unrolled (guarded (was_left l.left.exits l.left.returns (flags_view l.flags))) (l.turns.count - l.counter) l.control l.value l.turns.step (length (scratch_of_all (bodies_here l.scope) (stmts_view l.body))) (flat_of_all (bodies_here l.scope) (owner_view l.scope.owner) l.scope.base (flags_view l.flags) (stmts_view l.body)) (l.scope.cells + length l.scratch.items)
      ≡ flats_view l.initial.out.items
      ++ unrolled (guarded (was_left l.left.exits l.left.returns (flags_view l.flags))) l.turns.count l.control l.turns.first l.turns.step (length (scratch_of_all (bodies_here l.scope) (stmts_view l.body))) (flat_of_all (bodies_here l.scope) (owner_view l.scope.owner) l.scope.base (flags_view l.flags) (stmts_view l.body)) (l.scope.cells + length l.initial.scratch.items);
  scratch : l.scratch.items ++ repeated (l.turns.count - l.counter) (scratch_of_all (bodies_here l.scope) (stmts_view l.body))
      ≡ l.initial.scratch.items ++ repeated l.turns.count (scratch_of_all (bodies_here l.scope) (stmts_view l.body));
  stays : (r : Range) → turns_stay l.turns r ≡ true → stay_from (l.turns.count - l.counter) l.value l.turns.step r ≡ true;
}

abbrev pub invariant-charts::flatten_actions-loop-action : goal.invariant-charts::flatten_actions-loop-action
invariant-charts::flatten_actions-loop-action l = record {
  list : flats_view l.out.items ++ flat_actions (bodies_here l.scope) (owner_view l.scope.owner) l.scope.base l.steps (actions_view (drop l.action-index l.actions)) (l.scope.cells + length l.scratch.items)
      ≡ flats_view l.initial.out.items ++ flat_actions (bodies_here l.scope) (owner_view l.scope.owner) l.scope.base l.steps (actions_view l.actions) (l.scope.cells + length l.initial.scratch.items);
  scratch : l.scratch.items ++ scratch_of_actions (bodies_here l.scope) (actions_view (drop l.action-index l.actions))
      ≡ l.initial.scratch.items ++ scratch_of_actions (bodies_here l.scope) (actions_view l.actions);
  weighs : action_nodes (actions_view (drop l.action-index l.actions)) ≤ action_nodes (actions_view l.actions);
}

abbrev pub invariant-charts::flatten_transitions-loop-transition : goal.invariant-charts::flatten_transitions-loop-transition
invariant-charts::flatten_transitions-loop-transition l = record {
  list : flats_view l.out.items ++ flat_transitions (bodies_here l.scope) (owner_view l.scope.owner) l.scope.base l.steps l.flags (transitions_view (drop l.transition-index l.transitions)) (l.scope.cells + length l.scratch.items)
      ≡ flats_view l.initial.out.items ++ flat_transitions (bodies_here l.scope) (owner_view l.scope.owner) l.scope.base l.steps l.flags (transitions_view l.transitions) (l.scope.cells + length l.initial.scratch.items);
  scratch : l.scratch.items ++ scratch_of_transitions (bodies_here l.scope) (transitions_view (drop l.transition-index l.transitions))
      ≡ l.initial.scratch.items ++ scratch_of_transitions (bodies_here l.scope) (transitions_view l.transitions);
  weighs : transition_nodes (transitions_view (drop l.transition-index l.transitions)) ≤ transition_nodes (transitions_view l.transitions);
}

-- what is left of the tree, and all that may be run and called

abbrev pub decreases-calls::flatten_expr : goal.decreases-calls::flatten_expr
decreases-calls::flatten_expr l = weight_here l.scope.now + 4 * nodes (expr_view l.expr.now)

abbrev pub decreases-calls::flatten_operands : goal.decreases-calls::flatten_operands
decreases-calls::flatten_operands l = weight_here l.scope.now + 4 * operand_nodes (operands_view l.operands.now)

abbrev pub decreases-calls::flatten_exprs : goal.decreases-calls::flatten_exprs
decreases-calls::flatten_exprs l = weight_here l.scope.now + 4 * all_nodes (arguments_view l.list.now)

abbrev pub decreases-calls::flatten_answer : goal.decreases-calls::flatten_answer
decreases-calls::flatten_answer l = weight_here l.scope.now + 4 * all_nodes (arguments_view l.inputs.now) + 2

abbrev pub decreases-calls::flatten_inputs : goal.decreases-calls::flatten_inputs
decreases-calls::flatten_inputs l = weight_here l.scope.now + 4 * all_nodes (arguments_view l.inputs.now)

abbrev pub decreases-statements::flatten_all : goal.decreases-statements::flatten_all
decreases-statements::flatten_all l = weight_here l.scope.now + 4 * body_nodes (stmts_view l.list.now)

abbrev pub decreases-statements::flatten_one : goal.decreases-statements::flatten_one
decreases-statements::flatten_one l = weight_here l.scope.now + 4 * statement_nodes (stmt_view l.stmt.now)

abbrev pub decreases-statements::flatten_block : goal.decreases-statements::flatten_block
decreases-statements::flatten_block l = weight_here l.scope.now

abbrev pub decreases-statements::flatten_arms : goal.decreases-statements::flatten_arms
decreases-statements::flatten_arms l = weight_here l.scope.now + 4 * choice_nodes (choices_view l.arms.now)

abbrev pub decreases-statements::flatten_entries : goal.decreases-statements::flatten_entries
decreases-statements::flatten_entries l = weight_here l.scope.now + 4 * entry_nodes (entries_view l.entries.now)

abbrev pub decreases-statements::unroll : goal.decreases-statements::unroll
decreases-statements::unroll l = weight_here l.scope.now + 4 * body_nodes (stmts_view l.body.now) + 1

abbrev pub decreases-statements::unroll_guarded : goal.decreases-statements::unroll_guarded
decreases-statements::unroll_guarded l = weight_here l.scope.now + 4 * body_nodes (stmts_view l.body.now) + 1

abbrev pub decreases-statements::flatten_for : goal.decreases-statements::flatten_for
decreases-statements::flatten_for l = weight_here l.scope.now + 4 * body_nodes (stmts_view l.body.now) + 2

abbrev pub decreases-statements::flatten_body : goal.decreases-statements::flatten_body
decreases-statements::flatten_body l = weight_here l.scope.now + 4 * body_nodes (stmts_view l.body.now) + 2

abbrev pub decreases-statements::flatten_case : goal.decreases-statements::flatten_case
decreases-statements::flatten_case l = weight_here l.scope.now + 4 * (nodes (expr_view l.selector.now) + entry_nodes (entries_view l.entries.now) + body_nodes (stmts_view l.other.now)) + 2

abbrev pub decreases-statements::flatten_arm : goal.decreases-statements::flatten_arm
decreases-statements::flatten_arm l = weight_here l.scope.now + 4 * (nodes (arm_view l.arm.now).0 + body_nodes (arm_view l.arm.now).1) + 2

abbrev pub decreases-charts::flatten_chart : goal.decreases-charts::flatten_chart
decreases-charts::flatten_chart l = weight_here l.scope.now + 4 * (action_nodes (actions_view l.actions.now) + transition_nodes (transitions_view l.transitions.now)) + 2

abbrev pub decreases-charts::flatten_actions : goal.decreases-charts::flatten_actions
decreases-charts::flatten_actions l = weight_here l.scope.now + 4 * action_nodes (actions_view l.actions.now)

abbrev pub decreases-charts::flatten_action : goal.decreases-charts::flatten_action
decreases-charts::flatten_action l = weight_here l.scope.now + 4 * body_nodes (action_view l.action.now).2 + 2

abbrev pub decreases-charts::flatten_transitions : goal.decreases-charts::flatten_transitions
decreases-charts::flatten_transitions l = weight_here l.scope.now + 4 * transition_nodes (transitions_view l.transitions.now)

abbrev pub decreases-charts::flatten_transition : goal.decreases-charts::flatten_transition
decreases-charts::flatten_transition l = weight_here l.scope.now + 4 * nodes (transition_view l.transition.now).condition + 2
