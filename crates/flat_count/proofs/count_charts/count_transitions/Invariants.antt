use Rattle.std.proofs.Common.{◌≡◌, ◌+◌, ◌≤◌, drop}
use Rattle.program_tree.specs.View.{transitions_view}
use Rattle.flat_count.specs.Counts.{count_of_transitions, counting_here, capped}
use Rattle.flat_count.proofs.count_charts.count_transitions.Given as goal

-- what is counted with what is left
abbrev pub invariant-loop-transition : goal.invariant-loop-transition
invariant-loop-transition l = record {
  all : capped (l.total + count_of_transitions (counting_here l.counts) (transitions_view (drop l.transition-index l.transitions)))
      ≡ capped (count_of_transitions (counting_here l.counts) (transitions_view l.transitions));
  fits : l.total ≤ 200001;
}
