use Rattle.std.proofs.Common.{◌≡◌, ◌++◌, drop, length}
use Rattle.gates.specs.Netlists.{IsExtensionOf}
use Rattle.word_circuits.specs.Sums.{add_of}
use Rattle.word_circuits.proofs.sums.add.Given as goal

abbrev pub invariant-loop-i : goal.invariant-loop-i
invariant-loop-i l = record {
  len : length l.word.items ≡ l.i;
  word : l.word.items ++ (add_of (drop l.i l.a) (drop l.i l.b) l.next l.circuit).word ≡ (add_of l.a l.b l.initial.next l.initial.circuit).word;
  carry : (add_of (drop l.i l.a) (drop l.i l.b) l.next l.circuit).carry ≡ (add_of l.a l.b l.initial.next l.initial.circuit).carry;
  net : (add_of (drop l.i l.a) (drop l.i l.b) l.next l.circuit).net ≡ (add_of l.a l.b l.initial.next l.initial.circuit).net;
  extends : IsExtensionOf l.initial.circuit l.circuit;
}
