use Rattle.std.proofs.Common.{◌≡◌, take}
use Rattle.std.specs.List.{filter}
use Rattle.call_order.specs.Uses.{graph_of, leads_to}
use Rattle.call_order.proofs.circular.leading_back.Given as goal

abbrev pub invariant-loop-number : goal.invariant-loop-number
invariant-loop-number l = l.back.items ≡ filter (λ used. leads_to (graph_of l.uses) used l.user) (take l.number-index l.numbers)
