use Rattle.std.proofs.Common.{◌≡◌, drop}
use Rattle.meaning.specs.Flags.{may_leave}
use Rattle.interpreter.proofs.markings.may_leave.Given as goal

abbrev pub invariant-loop-step : goal.invariant-loop-step
invariant-loop-step l = may_leave l.now l.exited (drop l.step-index l.steps) ≡ may_leave l.now l.exited l.steps
