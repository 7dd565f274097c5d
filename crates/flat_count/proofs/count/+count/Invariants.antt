use Rattle.std.proofs.Common.{◌≡◌, ◌+◌, ◌≤◌, drop}
use Rattle.program_tree.specs.View.{stmts_view, choices_view, entries_view, actions_view}
use Rattle.flat_count.specs.Counts.{count_of_all, count_of_choices, count_of_entries, count_of_actions, counting_here, capped}
use Rattle.flat_count.proofs.count.+count.Given as goal

-- What is counted with what is left; of statements, those from a place on.
abbrev pub invariant-count_all-loop-index : goal.invariant-count_all-loop-index
invariant-count_all-loop-index l = record {
  all : l.total ≡ capped (count_of_all (counting_here l.counts) (stmts_view (drop l.index l.list)));
  fits : l.total ≤ 200001;
}

abbrev pub invariant-count_arms-loop-arm : goal.invariant-count_arms-loop-arm
invariant-count_arms-loop-arm l = record {
  all : capped (l.total + count_of_choices (counting_here l.counts) (choices_view (drop l.arm-index l.arms))) ≡ capped (count_of_choices (counting_here l.counts) (choices_view l.arms));
  fits : l.total ≤ 200001;
}

abbrev pub invariant-count_entries-loop-entry : goal.invariant-count_entries-loop-entry
invariant-count_entries-loop-entry l = record {
  all : capped (l.total + count_of_entries (counting_here l.counts) (entries_view (drop l.entry-index l.entries))) ≡ capped (count_of_entries (counting_here l.counts) (entries_view l.entries));
  fits : l.total ≤ 200001;
}

abbrev pub invariant-count_actions-loop-action : goal.invariant-count_actions-loop-action
invariant-count_actions-loop-action l = record {
  all : capped (l.total + count_of_actions (counting_here l.counts) (actions_view (drop l.action-index l.actions))) ≡ capped (count_of_actions (counting_here l.counts) (actions_view l.actions));
  fits : l.total ≤ 200001;
}
