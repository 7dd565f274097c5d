use Rattle.std.proofs.Common.{◌≡◌, drop}
use Rattle.meaning.specs.Flags.{with_steps}
use Rattle.interpreter.proofs.markings.enter_all.Given as goal

abbrev pub invariant-loop-step : goal.invariant-loop-step
invariant-loop-step l = with_steps (drop l.step-index l.steps) l.marking ≡ with_steps l.steps l.initial.marking
