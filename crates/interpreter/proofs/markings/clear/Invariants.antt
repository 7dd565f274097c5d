use Rattle.std.proofs.Common.{◌≡◌, length, take}
use Rattle.meaning.specs.Flags.{no_steps}
use Rattle.interpreter.proofs.markings.clear.Given as goal

abbrev pub invariant-loop-i : goal.invariant-loop-i
invariant-loop-i l = record {
  front : take l.i l.marking ≡ take l.i (no_steps l.initial.marking);
  long : length l.marking ≡ length l.initial.marking;
}
