use Rattle.std.proofs.Common.{◌+◌}
use Rattle.lane_sim.specs.Layouts.{IsLaidOut}
use Rattle.lane_sim.proofs.layout.lay_out.Given as goal

abbrev pub invariant-loop-place : goal.invariant-loop-place
invariant-loop-place l = IsLaidOut l.circuit l.last (l.circuit.first + l.place) l.layout
