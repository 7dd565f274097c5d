use Rattle.std.proofs.Common.{◌≡◌, ℕ, ◌<◌, ltb, cond, [], length}
use Rattle.call_order.specs.Uses.{graph_of, uses_at}
use Rattle.call_order.specs.Users.{times}
use Rattle.call_order.proofs.taking.users_of.Given as goal

abbrev pub invariant-loop : goal.invariant-loop
invariant-loop l = record {
  size : length l.users.items ≡ l.counter;
  none : (k : ℕ) → uses_at (graph_of l.users.items) k ≡ [];
}

abbrev pub invariant-loop-user : goal.invariant-loop-user
invariant-loop-user l = record {
  size : length l.users.items ≡ length l.uses;
  gained : (k other : ℕ) → k < length l.uses → times other (uses_at (graph_of l.users.items) k) ≡ cond (ltb other l.user) (times k (uses_at (graph_of l.uses) other)) 0;
}
