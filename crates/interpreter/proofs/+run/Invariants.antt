use Rattle.std.proofs.Common.{◌≡◌, ◌≤◌, ◌+◌, ◌-◌, ◌*◌, ◌||◌, false, drop, length}
use Rattle.program_tree.specs.View.{expr_view, operands_view, arguments_view, stmt_view, stmts_view, choices_view, entries_view, actions_view, transitions_view}
use Rattle.meaning.specs.Values.{value_on, any_faults, values_of, one_faults}
use Rattle.operations.specs.Joined.{joined_on}
use Rattle.meaning.specs.Charts.{holds_in, faults_in}
use Rattle.meaning.specs.Effects.{effect_of_all, effect_of_choices, effect_of_entries, effect_of_turns, effect_of_actions}
use Rattle.meaning.specs.Flags.{exited_after, entered_after, fault_after}
use Rattle.meaning.specs.Room.{markings_in_all, markings_in_choices, markings_in_entries, markings_in_actions}
use Rattle.interpreter.specs.Scopes.{callees_here, cells_read}
use Rattle.interpreter.specs.Turning.{value_after, StandsFor}
use Rattle.meaning.proofs.Sizes.{nodes, operand_nodes, all_nodes, transition_nodes, statement_nodes, body_nodes, choice_nodes, entry_nodes, action_nodes}
use Rattle.interpreter.proofs.Weights.{weight_here}
use Rattle.interpreter.proofs.+run.Given as goal

-- what is left to do gives the whole, and is no more than it

abbrev pub invariant-evaluation::evaluate_on-loop-operand : goal.invariant-evaluation::evaluate_on-loop-operand
invariant-evaluation::evaluate_on-loop-operand l = record {
  value : value_on (callees_here l.reading.scope.now) l.reading.scope.now.base l.so_far.value (operands_view (drop l.operand-index l.operands)) (cells_read l.reading)
      ≡ value_on (callees_here l.reading.scope.now) l.reading.scope.now.base l.initial.so_far.value (operands_view l.operands) (cells_read l.reading);
  fault : (l.so_far.fault || any_faults (callees_here l.reading.scope.now) l.reading.scope.now.base (operands_view (drop l.operand-index l.operands)) (cells_read l.reading))
      ≡ (l.initial.so_far.fault || any_faults (callees_here l.reading.scope.now) l.reading.scope.now.base (operands_view l.operands) (cells_read l.reading));
  weighs : operand_nodes (operands_view (drop l.operand-index l.operands)) ≤ operand_nodes (operands_view l.operands);
  room : length l.stack ≡ length l.initial.stack;
}

abbrev pub invariant-evaluation::evaluate_joined-loop-operand : goal.invariant-evaluation::evaluate_joined-loop-operand
invariant-evaluation::evaluate_joined-loop-operand l = record {
  value : joined_on l.function l.so_far.value (values_of (callees_here l.reading.scope.now) l.reading.scope.now.base (arguments_view (drop l.operand-index l.rest)) (cells_read l.reading))
      ≡ joined_on l.function l.initial.so_far.value (values_of (callees_here l.reading.scope.now) l.reading.scope.now.base (arguments_view l.rest) (cells_read l.reading));
  fault : (l.so_far.fault || one_faults (callees_here l.reading.scope.now) l.reading.scope.now.base (arguments_view (drop l.operand-index l.rest)) (cells_read l.reading))
      ≡ (l.initial.so_far.fault || one_faults (callees_here l.reading.scope.now) l.reading.scope.now.base (arguments_view l.rest) (cells_read l.reading));
  weighs : all_nodes (arguments_view (drop l.operand-index l.rest)) ≤ all_nodes (arguments_view l.rest);
  room : length l.stack ≡ length l.initial.stack;
}

abbrev pub invariant-statements::run_all-loop-stmt : goal.invariant-statements::run_all-loop-stmt
invariant-statements::run_all-loop-stmt l = record {
  rest : effect_of_all (callees_here l.scope) l.scope.ranges.now l.scope.base (stmts_view (drop l.stmt-index l.list)) l.cells ≡ effect_of_all (callees_here l.scope) l.scope.ranges.now l.scope.base (stmts_view l.list) l.initial.cells;
  weighs : body_nodes (stmts_view (drop l.stmt-index l.list)) ≤ body_nodes (stmts_view l.list);
  markings : markings_in_all (stmts_view (drop l.stmt-index l.list)) ≤ markings_in_all (stmts_view l.list);
  room : length l.stack ≡ length l.initial.stack;
}

abbrev pub invariant-selection::run_arms-loop-arm : goal.invariant-selection::run_arms-loop-arm
invariant-selection::run_arms-loop-arm l = record {
  rest : effect_of_choices (callees_here l.scope) l.scope.ranges.now l.scope.base (choices_view (drop l.arm-index l.arms)) (effect_of_all (callees_here l.scope) l.scope.ranges.now l.scope.base (stmts_view l.other)) l.cells
      ≡ effect_of_choices (callees_here l.scope) l.scope.ranges.now l.scope.base (choices_view l.arms) (effect_of_all (callees_here l.scope) l.scope.ranges.now l.scope.base (stmts_view l.other)) l.initial.cells;
  weighs : choice_nodes (choices_view (drop l.arm-index l.arms)) ≤ choice_nodes (choices_view l.arms);
  markings : markings_in_choices (choices_view (drop l.arm-index l.arms)) ≤ markings_in_choices (choices_view l.arms);
  room : length l.stack ≡ length l.initial.stack;
}

abbrev pub invariant-selection::run_entries-loop-entry : goal.invariant-selection::run_entries-loop-entry
invariant-selection::run_entries-loop-entry l = record {
  rest : effect_of_entries (callees_here l.scope) l.scope.ranges.now l.scope.base l.value (entries_view (drop l.entry-index l.entries)) (effect_of_all (callees_here l.scope) l.scope.ranges.now l.scope.base (stmts_view l.other)) l.cells
      ≡ effect_of_entries (callees_here l.scope) l.scope.ranges.now l.scope.base l.value (entries_view l.entries) (effect_of_all (callees_here l.scope) l.scope.ranges.now l.scope.base (stmts_view l.other)) l.initial.cells;
  weighs : entry_nodes (entries_view (drop l.entry-index l.entries)) ≤ entry_nodes (entries_view l.entries);
  markings : markings_in_entries (entries_view (drop l.entry-index l.entries)) ≤ markings_in_entries (entries_view l.entries);
  room : length l.stack ≡ length l.initial.stack;
}

abbrev pub invariant-charts::run_actions-loop-action : goal.invariant-charts::run_actions-loop-action
invariant-charts::run_actions-loop-action l = record {
  rest : effect_of_actions (callees_here l.scope) l.scope.ranges.now l.scope.base l.now l.before (actions_view (drop l.action-index l.actions)) l.cells ≡ effect_of_actions (callees_here l.scope) l.scope.ranges.now l.scope.base l.now l.before (actions_view l.actions) l.initial.cells;
  weighs : action_nodes (actions_view (drop l.action-index l.actions)) ≤ action_nodes (actions_view l.actions);
  markings : markings_in_actions (actions_view (drop l.action-index l.actions)) ≤ markings_in_actions (actions_view l.actions);
  room : length l.stack ≡ length l.initial.stack;
}

abbrev pub invariant-charts::fire_all-loop-transition : goal.invariant-charts::fire_all-loop-transition
invariant-charts::fire_all-loop-transition l = record {
  exited_rest : exited_after l.now (holds_in (callees_here l.scope) l.scope.base l.cells) (transitions_view (drop l.transition-index l.transitions)) l.exited ≡ exited_after l.now (holds_in (callees_here l.scope) l.scope.base l.cells) (transitions_view l.transitions) l.initial.exited;
  entered_rest : entered_after l.now (holds_in (callees_here l.scope) l.scope.base l.cells) (transitions_view (drop l.transition-index l.transitions)) l.exited l.entered ≡ entered_after l.now (holds_in (callees_here l.scope) l.scope.base l.cells) (transitions_view l.transitions) l.initial.exited l.initial.entered;
  fault_rest : fault_after l.now (holds_in (callees_here l.scope) l.scope.base l.cells) (faults_in (callees_here l.scope) l.scope.base l.cells) (transitions_view (drop l.transition-index l.transitions)) l.exited l.fault ≡ fault_after l.now (holds_in (callees_here l.scope) l.scope.base l.cells) (faults_in (callees_here l.scope) l.scope.base l.cells) (transitions_view l.transitions) l.initial.exited false;
  weighs : transition_nodes (transitions_view (drop l.transition-index l.transitions)) ≤ transition_nodes (transitions_view l.transitions);
  room : length l.stack ≡ length l.initial.stack;
}

-- and what is kept of the running value stands for it

abbrev pub invariant-turns::run_turns-loop : goal.invariant-turns::run_turns-loop
invariant-turns::run_turns-loop l = record {
  rest : effect_of_turns l.scope.ranges.now (l.turns.count - l.counter) l.control (value_after l.turns.first l.turns.step l.counter) l.turns.step (effect_of_all (callees_here l.scope) l.scope.ranges.now l.scope.base (stmts_view l.body)) l.cells
      ≡ effect_of_turns l.scope.ranges.now l.turns.count l.control l.turns.first l.turns.step (effect_of_all (callees_here l.scope) l.scope.ranges.now l.scope.base (stmts_view l.body)) l.initial.cells;
  stands : StandsFor l.value l.turns.step (value_after l.turns.first l.turns.step l.counter);
  room : length l.stack ≡ length l.initial.stack;
}

-- what is left of the tree, and all that may be called

abbrev pub decreases-evaluation::evaluate_over : goal.decreases-evaluation::evaluate_over
decreases-evaluation::evaluate_over l = weight_here l.scope.now + 2 * nodes (expr_view l.expr.now) + 1

abbrev pub decreases-evaluation::evaluate_in : goal.decreases-evaluation::evaluate_in
decreases-evaluation::evaluate_in l = weight_here l.reading.now.scope.now + 2 * nodes (expr_view l.expr.now)

abbrev pub decreases-evaluation::evaluate_on : goal.decreases-evaluation::evaluate_on
decreases-evaluation::evaluate_on l = weight_here l.reading.now.scope.now + 2 * operand_nodes (operands_view l.operands.now)

abbrev pub decreases-evaluation::evaluate_call : goal.decreases-evaluation::evaluate_call
decreases-evaluation::evaluate_call l = weight_here l.reading.now.scope.now + 2 * all_nodes (arguments_view l.operands.now) + 1

abbrev pub decreases-evaluation::evaluate_joined : goal.decreases-evaluation::evaluate_joined
decreases-evaluation::evaluate_joined l = weight_here l.reading.now.scope.now + 2 * all_nodes (arguments_view l.operands.now)

abbrev pub decreases-answers::answer : goal.decreases-answers::answer
decreases-answers::answer l = weight_here l.reading.now.scope.now + 2 * all_nodes (arguments_view l.inputs.now) + 2

abbrev pub decreases-answers::unanswered : goal.decreases-answers::unanswered
decreases-answers::unanswered l = weight_here l.reading.now.scope.now + 2 * all_nodes (arguments_view l.inputs.now) + 1

abbrev pub decreases-answers::fill : goal.decreases-answers::fill
decreases-answers::fill l = weight_here l.reading.now.scope.now + 2 * all_nodes (arguments_view l.inputs.now)

abbrev pub decreases-statements::run_all : goal.decreases-statements::run_all
decreases-statements::run_all l = weight_here l.scope.now + 2 * body_nodes (stmts_view l.list.now)

abbrev pub decreases-statements::run : goal.decreases-statements::run
decreases-statements::run l = weight_here l.scope.now + 2 * statement_nodes (stmt_view l.stmt.now)

abbrev pub decreases-statements::run_block : goal.decreases-statements::run_block
decreases-statements::run_block l = weight_here l.scope.now

abbrev pub decreases-selection::run_arms : goal.decreases-selection::run_arms
decreases-selection::run_arms l = weight_here l.scope.now + 2 * (choice_nodes (choices_view l.arms.now) + body_nodes (stmts_view l.other.now)) + 1

abbrev pub decreases-selection::run_entries : goal.decreases-selection::run_entries
decreases-selection::run_entries l = weight_here l.scope.now + 2 * (entry_nodes (entries_view l.entries.now) + body_nodes (stmts_view l.other.now)) + 1

abbrev pub decreases-turns::run_turns : goal.decreases-turns::run_turns
decreases-turns::run_turns l = weight_here l.scope.now + 2 * body_nodes (stmts_view l.body.now) + 1

abbrev pub decreases-charts::run_chart : goal.decreases-charts::run_chart
decreases-charts::run_chart l = weight_here l.scope.now + 2 * (action_nodes (actions_view l.actions.now) + transition_nodes (transitions_view l.transitions.now)) + 1

abbrev pub decreases-charts::run_actions : goal.decreases-charts::run_actions
decreases-charts::run_actions l = weight_here l.scope.now + 2 * action_nodes (actions_view l.actions.now)

abbrev pub decreases-charts::run_action : goal.decreases-charts::run_action
decreases-charts::run_action l = weight_here l.scope.now + 2 * body_nodes (stmts_view l.action.now.body.items) + 1

abbrev pub decreases-charts::fire_all : goal.decreases-charts::fire_all
decreases-charts::fire_all l = weight_here l.scope.now + 2 * transition_nodes (transitions_view l.transitions.now)

abbrev pub decreases-charts::fire : goal.decreases-charts::fire
decreases-charts::fire l = weight_here l.scope.now + 2 * nodes (expr_view l.transition.now.condition) + 2
