use Rattle.std.proofs.Common.{◌≡◌, drop}
use Rattle.gates.specs.Netlists.{IsExtensionOf}
use Rattle.word_circuits.specs.Comparisons.{eq_from}
use Rattle.word_circuits.proofs.comparisons.equal.Given as goal

abbrev pub invariant-loop-i : goal.invariant-loop-i
invariant-loop-i l = record {
  same : eq_from l.same (drop l.i l.a) (drop l.i l.b) l.circuit ≡ eq_from l.initial.same l.a l.b l.initial.circuit;
  extends : IsExtensionOf l.initial.circuit l.circuit;
}
