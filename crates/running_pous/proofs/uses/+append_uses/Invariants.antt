use Rattle.std.proofs.Common.{◌≡◌, ◌++◌, drop}
use Rattle.program_tree.specs.View.{stmts_view, choices_view, entries_view, actions_view}
use Rattle.running_pous.specs.Uses.{uses_of_all, uses_of_choices, uses_of_entries, uses_of_actions}
use Rattle.running_pous.proofs.uses.+append_uses.Given as goal

abbrev pub invariant-append_uses-loop-stmt : goal.invariant-append_uses-loop-stmt
invariant-append_uses-loop-stmt l =
    l.uses.items ++ uses_of_all (stmts_view (drop l.stmt-index l.list)) ≡ l.fn.uses.items ++ uses_of_all (stmts_view l.list)

abbrev pub invariant-append_in_arms-loop-arm : goal.invariant-append_in_arms-loop-arm
invariant-append_in_arms-loop-arm l =
    l.uses.items ++ uses_of_choices (choices_view (drop l.arm-index l.arms)) ≡ l.fn.uses.items ++ uses_of_choices (choices_view l.arms)

abbrev pub invariant-append_in_entries-loop-entry : goal.invariant-append_in_entries-loop-entry
invariant-append_in_entries-loop-entry l =
    l.uses.items ++ uses_of_entries (entries_view (drop l.entry-index l.entries)) ≡ l.fn.uses.items ++ uses_of_entries (entries_view l.entries)

abbrev pub invariant-append_in_actions-loop-action : goal.invariant-append_in_actions-loop-action
invariant-append_in_actions-loop-action l =
    l.uses.items ++ uses_of_actions (actions_view (drop l.action-index l.actions)) ≡ l.fn.uses.items ++ uses_of_actions (actions_view l.actions)
