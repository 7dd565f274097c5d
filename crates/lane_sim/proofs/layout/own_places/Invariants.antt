use Rattle.std.proofs.Common.{◌≡◌, ℕ, ◌<◌, length}
use Rattle.gates.specs.Literals.{plain}
use Rattle.lane_sim.specs.Layouts.{place_in}
use Rattle.lane_sim.proofs.layout.own_places.Given as goal

abbrev pub invariant-loop-x : goal.invariant-loop-x
invariant-loop-x l = record {
  len : length l.places.items ≡ l.x;
  own : (x : ℕ) → x < l.x → place_in l.places.items x ≡ plain x;
}
