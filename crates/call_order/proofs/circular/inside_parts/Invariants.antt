use Rattle.call_order.specs.Uses.{graph_of}
use Rattle.call_order.specs.Parts.{is_inside}
use Rattle.call_order.proofs.Filters.{AreFilteredBelow}
use Rattle.call_order.proofs.circular.inside_parts.Given as goal

abbrev pub invariant-loop-user : goal.invariant-loop-user
invariant-loop-user l = AreFilteredBelow (graph_of l.uses) (is_inside l.parts) l.user (graph_of l.all.items)
