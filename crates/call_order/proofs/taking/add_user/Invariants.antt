use Rattle.std.proofs.Common.{take}
use Rattle.call_order.specs.Uses.{graph_of}
use Rattle.call_order.specs.Users.{GainsUser}
use Rattle.call_order.proofs.taking.add_user.Given as goal

abbrev pub invariant-loop-number : goal.invariant-loop-number
invariant-loop-number l = GainsUser l.user (take l.number-index l.used) (graph_of l.initial.users) (graph_of l.users)
