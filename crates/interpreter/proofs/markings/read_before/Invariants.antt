use Rattle.std.proofs.Common.{◌≡◌, length, take}
use Rattle.meaning.specs.Charts.{marking_before}
use Rattle.interpreter.proofs.markings.read_before.Given as goal

abbrev pub invariant-loop-i : goal.invariant-loop-i
invariant-loop-i l = record {
  front : take l.i l.marking ≡ take l.i (marking_before l.base l.steps l.cells);
  long : length l.marking ≡ length l.steps;
}
