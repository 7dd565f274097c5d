use Rattle.std.proofs.Common.{◌-◌}
use Rattle.call_order.specs.Uses.{graph_of}
use Rattle.call_order.proofs.UnderWay.{IsUnderWay}
use Rattle.call_order.proofs.taking.order.Given as goal

abbrev pub invariant-loop : goal.invariant-loop
invariant-loop l = IsUnderWay (graph_of l.uses) (graph_of l.users.items) l.missing.items l.ready.keys l.taken.items (l.end - l.counter)
