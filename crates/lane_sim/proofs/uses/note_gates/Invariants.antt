use Rattle.std.proofs.Common.{◌≡◌, length}
use Rattle.lane_sim.specs.Uses.{HasGrown, AreReadFrom}
use Rattle.lane_sim.proofs.uses.note_gates.Given as goal

abbrev pub invariant-loop-place : goal.invariant-loop-place
invariant-loop-place l = record {
  len : length l.last ≡ length l.initial.last;
  grown : HasGrown l.initial.last l.last;
  read : AreReadFrom l.place l.circuit l.last;
}
