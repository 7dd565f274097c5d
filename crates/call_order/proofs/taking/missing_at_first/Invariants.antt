use Rattle.std.proofs.Common.{◌≡◌, length, take, map}
use Rattle.call_order.proofs.taking.missing_at_first.Given as goal

abbrev pub invariant-loop-used : goal.invariant-loop-used
invariant-loop-used l = l.missing.items ≡ map (λ v. length v.items) (take l.used-index l.uses)
