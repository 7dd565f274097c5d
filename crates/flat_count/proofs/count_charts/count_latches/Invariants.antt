use Rattle.std.proofs.Common.{◌≡◌, ◌+◌, ◌≤◌, drop}
use Rattle.program_tree.specs.View.{actions_view}
use Rattle.flat_count.specs.Counts.{count_of_latches, capped}
use Rattle.flat_count.proofs.count_charts.count_latches.Given as goal

-- what is counted with what is left
abbrev pub invariant-loop-action : goal.invariant-loop-action
invariant-loop-action l = record {
  all : capped (l.total + count_of_latches (actions_view (drop l.action-index l.actions))) ≡ capped (count_of_latches (actions_view l.actions));
  fits : l.total ≤ 200001;
}
