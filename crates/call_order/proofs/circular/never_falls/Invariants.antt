use Rattle.std.proofs.Common.{◌≡◌, ℕ, ◌<◌, ◌≤◌, true, length, slice_index}
use Rattle.call_order.specs.Uses.{graph_of, uses_at, is_among}
use Rattle.call_order.proofs.circular.never_falls.Given as goal

abbrev pub invariant-loop-number : goal.invariant-loop-number
invariant-loop-number l =
    (k used : ℕ) → k < l.number → is_among used (uses_at (graph_of l.uses) k) ≡ true → (used < length l.uses) × (slice_index l.parts k ≤ slice_index l.parts used)
