use Rattle.std.proofs.Common.{◌≡◌, ℕ, eqb, ltb, ◌&&◌, length}
use Rattle.call_order.specs.Uses.{graph_of, uses_at, is_among}
use Rattle.call_order.proofs.taking.ready_at_first.Given as goal

abbrev pub invariant-loop-number : goal.invariant-loop-number
invariant-loop-number l = (k : ℕ) → is_among k l.ready.keys ≡ (ltb k l.number && eqb (length (uses_at (graph_of l.uses) k)) 0)
