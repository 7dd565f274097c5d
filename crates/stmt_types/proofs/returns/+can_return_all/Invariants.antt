use Rattle.std.proofs.Common.{◌≡◌, drop}
use Rattle.program_tree.specs.View.{stmts_view, choices_view, entries_view, actions_view}
use Rattle.program_tree.specs.Leaving.{can_return_all, can_return_choices, can_return_entries, can_return_actions}
use Rattle.stmt_types.proofs.returns.+can_return_all.Given as goal

-- what is left decides
abbrev pub invariant-can_return_all-loop-stmt : goal.invariant-can_return_all-loop-stmt
invariant-can_return_all-loop-stmt l = can_return_all (stmts_view (drop l.stmt-index l.list)) ≡ can_return_all (stmts_view l.list)

abbrev pub invariant-can_return_choices-loop-arm : goal.invariant-can_return_choices-loop-arm
invariant-can_return_choices-loop-arm l = can_return_choices (choices_view (drop l.arm-index l.arms)) ≡ can_return_choices (choices_view l.arms)

abbrev pub invariant-can_return_entries-loop-entry : goal.invariant-can_return_entries-loop-entry
invariant-can_return_entries-loop-entry l = can_return_entries (entries_view (drop l.entry-index l.entries)) ≡ can_return_entries (entries_view l.entries)

abbrev pub invariant-can_return_actions-loop-action : goal.invariant-can_return_actions-loop-action
invariant-can_return_actions-loop-action l = can_return_actions (actions_view (drop l.action-index l.actions)) ≡ can_return_actions (actions_view l.actions)
