use Rattle.std.proofs.Common.{◌≡◌, ◌++◌, drop}
use Rattle.program_tree.specs.View.{transitions_view}
use Rattle.running_pous.specs.Uses.{uses_of_transitions}
use Rattle.running_pous.proofs.uses.append_in_transitions.Given as goal

abbrev pub invariant-loop-transition : goal.invariant-loop-transition
invariant-loop-transition l =
    l.uses.items ++ uses_of_transitions (transitions_view (drop l.transition-index l.transitions)) ≡ l.fn.uses.items ++ uses_of_transitions (transitions_view l.transitions)
