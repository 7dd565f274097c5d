use Rattle.std.proofs.Common.{◌≡◌, ◌||◌, drop}
use Rattle.program_tree.specs.Leaving.{can_exit_all, can_exit_choices, can_exit_entries, can_exit_actions, can_return_all, can_return_choices, can_return_entries, can_return_actions}
use Rattle.program_tree.specs.View.{stmts_view, choices_view, entries_view, actions_view}
use Rattle.flat_count.proofs.leaves.+leaving.Given as goal

-- what is found with what is left

abbrev pub invariant-leaving_all-loop-stmt : goal.invariant-leaving_all-loop-stmt
invariant-leaving_all-loop-stmt l = record {
  exits : (l.found.exits || can_exit_all (stmts_view (drop l.stmt-index l.list))) ≡ can_exit_all (stmts_view l.list);
  returns : (l.found.returns || can_return_all (stmts_view (drop l.stmt-index l.list))) ≡ can_return_all (stmts_view l.list);
}

abbrev pub invariant-leaving_arms-loop-arm : goal.invariant-leaving_arms-loop-arm
invariant-leaving_arms-loop-arm l = record {
  exits : (l.found.exits || can_exit_choices (choices_view (drop l.arm-index l.arms))) ≡ can_exit_choices (choices_view l.arms);
  returns : (l.found.returns || can_return_choices (choices_view (drop l.arm-index l.arms))) ≡ can_return_choices (choices_view l.arms);
}

abbrev pub invariant-leaving_entries-loop-entry : goal.invariant-leaving_entries-loop-entry
invariant-leaving_entries-loop-entry l = record {
  exits : (l.found.exits || can_exit_entries (entries_view (drop l.entry-index l.entries))) ≡ can_exit_entries (entries_view l.entries);
  returns : (l.found.returns || can_return_entries (entries_view (drop l.entry-index l.entries))) ≡ can_return_entries (entries_view l.entries);
}

abbrev pub invariant-leaving_actions-loop-action : goal.invariant-leaving_actions-loop-action
invariant-leaving_actions-loop-action l = record {
  exits : (l.found.exits || can_exit_actions (actions_view (drop l.action-index l.actions))) ≡ can_exit_actions (actions_view l.actions);
  returns : (l.found.returns || can_return_actions (actions_view (drop l.action-index l.actions))) ≡ can_return_actions (actions_view l.actions);
}
