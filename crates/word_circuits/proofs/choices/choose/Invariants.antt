use Rattle.std.proofs.Common.{◌≡◌, ◌++◌, drop, length}
use Rattle.gates.specs.Netlists.{IsExtensionOf}
use Rattle.word_circuits.specs.Choices.{choose_of}
use Rattle.word_circuits.proofs.choices.choose.Given as goal

abbrev pub invariant-loop-i : goal.invariant-loop-i
invariant-loop-i l = record {
  len : length l.word.items ≡ l.i;
  word : l.word.items ++ (choose_of l.c (drop l.i l.a) (drop l.i l.b) l.circuit).word ≡ (choose_of l.c l.a l.b l.initial.circuit).word;
  net : (choose_of l.c (drop l.i l.a) (drop l.i l.b) l.circuit).net ≡ (choose_of l.c l.a l.b l.initial.circuit).net;
  extends : IsExtensionOf l.initial.circuit l.circuit;
}
