use Rattle.std.proofs.Common.{◌≡◌, ℕ, ◌<◌, drop, length}
use Rattle.lane_sim.specs.Lanes.{assignment_of}
use Rattle.lane_sim.specs.Steps.{stepped}
use Rattle.lane_sim.proofs.step.put_steps.Given as goal

abbrev pub invariant-loop-step : goal.invariant-loop-step
invariant-loop-step l = record {
  whole : length l.words ≡ length l.initial.words;
  same : (j : ℕ) → j < 256 → stepped (drop l.step-index l.steps) (assignment_of j l.words) ≡ stepped l.steps (assignment_of j l.initial.words);
}
