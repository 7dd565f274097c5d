use Rattle.std.proofs.Common.{◌≡◌, drop}
use Rattle.gates.specs.Netlists.{IsExtensionOf}
use Rattle.word_circuits.specs.Conversions.{any_from}
use Rattle.word_circuits.proofs.convert.any.Given as goal

abbrev pub invariant-loop-bit : goal.invariant-loop-bit
invariant-loop-bit l = record {
  same : any_from l.some (drop l.bit-index l.word) l.circuit ≡ any_from l.initial.some l.word l.initial.circuit;
  extends : IsExtensionOf l.initial.circuit l.circuit;
}
