use Rattle.std.proofs.Common.{◌≡◌, ℕ, ◌+◌, subst, arith}
use Rattle.lane_sim.specs.Layouts.{IsLaidOut}
use Rattle.lane_sim.proofs.layout.lay_out.Goals as goal

pub loop-place-init : goal.loop-place-init
loop-place-init c =
    let first : ℕ = c.args.circuit.now.first in
    let none : first ≡ first + 0 = omega arith in
    subst (λ (x : ℕ). IsLaidOut c.args.circuit.now c.args.last.now x c.in_ok-layout.layout) none (c.in_ok-layout.ensures c.args.last.now)
