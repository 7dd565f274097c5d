use Rattle.std.proofs.Common.{◌≡◌, ℕ, ◌<◌, length, slice_index}
use Rattle.lane_sim.proofs.layout.own_holders.Given as goal

abbrev pub invariant-loop-x : goal.invariant-loop-x
invariant-loop-x l = record {
  len : length l.holders.items ≡ l.x;
  own : (x : ℕ) → x < l.x → slice_index l.holders.items x ≡ x;
}
