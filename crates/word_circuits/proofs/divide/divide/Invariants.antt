use Rattle.std.proofs.Common.{◌≡◌, [], drop, length, reverse}
use Rattle.gates.specs.Netlists.{IsExtensionOf}
use Rattle.word_circuits.specs.Divisions.{divide_from}
use Rattle.word_circuits.proofs.divide.divide.Given as goal

abbrev pub invariant-loop-bit : goal.invariant-loop-bit
invariant-loop-bit l = record {
  len : length l.rest.items ≡ length l.b;
  same : divide_from (drop l.bit-index l.bit-items) l.b l.rest.items (reverse l.quotient.items) l.circuit ≡ divide_from l.bit-items l.b l.initial.rest.items [] l.initial.circuit;
  extends : IsExtensionOf l.initial.circuit l.circuit;
}
