use Rattle.std.proofs.Common.{◌≡◌, drop}
use Rattle.call_order.specs.Uses.{graph_of}
use Rattle.pou_scope.specs.NoUses.{uses_nothing}
use Rattle.pou_scope.proofs.variable_uses.uses_nothing.Given as goal

abbrev pub invariant-loop-used : goal.invariant-loop-used
invariant-loop-used l = uses_nothing (graph_of (drop l.used-index l.uses)) ≡ uses_nothing (graph_of l.uses)
