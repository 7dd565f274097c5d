use Rattle.std.proofs.Common.{◌≡◌, drop, length}
use Rattle.gates.specs.Netlists.{IsExtensionOf}
use Rattle.word_circuits.specs.Products.{mul_from}
use Rattle.word_circuits.proofs.products.mul.Given as goal

abbrev pub invariant-loop-i : goal.invariant-loop-i
invariant-loop-i l = record {
  len : length l.sum.items ≡ length l.a;
  same : mul_from l.a l.i (drop l.i l.b) l.sum.items l.circuit ≡ mul_from l.a 0 l.b l.initial.sum.items l.initial.circuit;
  extends : IsExtensionOf l.initial.circuit l.circuit;
}
