use Rattle.call_order.specs.Uses.{graph_of, leads_to}
use Rattle.call_order.proofs.Filters.{AreFilteredBelow}
use Rattle.call_order.proofs.circular.one_by_one.Given as goal

abbrev pub invariant-loop-user : goal.invariant-loop-user
invariant-loop-user l = AreFilteredBelow (graph_of l.uses) (λ user used. leads_to (graph_of l.uses) used user) l.user (graph_of l.all.items)
