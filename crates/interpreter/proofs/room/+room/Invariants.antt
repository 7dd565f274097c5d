use Rattle.std.proofs.Common.{◌≡◌, ◌+◌, ◌*◌, drop, length}
use Rattle.program_tree.specs.View.{stmts_view, choices_view, entries_view, actions_view}
use Rattle.meaning.specs.Room.{markings_in_all, markings_in_choices, markings_in_entries, markings_in_actions}
use Rattle.interpreter.proofs.room.+room.Given as goal

-- what is left to add gives the whole

abbrev pub invariant-add_markings_of_all-loop-stmt : goal.invariant-add_markings_of_all-loop-stmt
invariant-add_markings_of_all-loop-stmt l =
    length l.stack.items + markings_in_all (stmts_view (drop l.stmt-index l.list)) ≡ length l.initial.stack.items + markings_in_all (stmts_view l.list)

abbrev pub invariant-add_markings_of_arms-loop-arm : goal.invariant-add_markings_of_arms-loop-arm
invariant-add_markings_of_arms-loop-arm l =
    length l.stack.items + markings_in_choices (choices_view (drop l.arm-index l.arms)) ≡ length l.initial.stack.items + markings_in_choices (choices_view l.arms)

abbrev pub invariant-add_markings_of_entries-loop-entry : goal.invariant-add_markings_of_entries-loop-entry
invariant-add_markings_of_entries-loop-entry l =
    length l.stack.items + markings_in_entries (entries_view (drop l.entry-index l.entries)) ≡ length l.initial.stack.items + markings_in_entries (entries_view l.entries)

abbrev pub invariant-add_markings_of_actions-loop-action : goal.invariant-add_markings_of_actions-loop-action
invariant-add_markings_of_actions-loop-action l =
    length l.stack.items + markings_in_actions (actions_view (drop l.action-index l.actions)) ≡ length l.initial.stack.items + markings_in_actions (actions_view l.actions)

abbrev pub invariant-add_markings-loop-step : goal.invariant-add_markings-loop-step
invariant-add_markings-loop-step l = length l.stack.items ≡ length l.initial.stack.items + 4 * l._step-index
