use Rattle.std.proofs.Common.{◌≡◌, ◌++◌, drop, length}
use Rattle.gates.specs.Netlists.{IsExtensionOf}
use Rattle.word_circuits.specs.Words.{bitwise_of}
use Rattle.word_circuits.proofs.bits.bitwise.Given as goal

abbrev pub invariant-loop-i : goal.invariant-loop-i
invariant-loop-i l = record {
  len : length l.word.items ≡ l.i;
  word : l.word.items ++ (bitwise_of l.operator (drop l.i l.a) (drop l.i l.b) l.circuit).word ≡ (bitwise_of l.operator l.a l.b l.initial.circuit).word;
  net : (bitwise_of l.operator (drop l.i l.a) (drop l.i l.b) l.circuit).net ≡ (bitwise_of l.operator l.a l.b l.initial.circuit).net;
  extends : IsExtensionOf l.initial.circuit l.circuit;
}
