use Rattle.std.proofs.Common.{◌≡◌, drop}
use Rattle.meaning.specs.Effects.{marked}
use Rattle.meaning.specs.Flags.{is_next_from}
use Rattle.interpreter.proofs.markings.mark.Given as goal

abbrev pub invariant-loop-i : goal.invariant-loop-i
invariant-loop-i l =
    marked l.scope.ranges.now l.scope.base l.now (is_next_from l.now l.exited l.entered) l.i (drop l.i l.steps) l.cells
    ≡ marked l.scope.ranges.now l.scope.base l.now (is_next_from l.now l.exited l.entered) 0 l.steps l.initial.cells
