use Rattle.call_order.proofs.Released.{IsReleased}
use Rattle.call_order.proofs.taking.release.Given as goal

abbrev pub invariant-loop-user : goal.invariant-loop-user
invariant-loop-user l = IsReleased l.users l.user-index l.initial.missing l.missing l.initial.ready.keys l.ready.keys
