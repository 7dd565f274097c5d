use Rattle.std.proofs.Common.{◌≡◌, drop}
use Rattle.plc_types.specs.Types.{type_among}
use Rattle.plc_types.proofs.elementary.type_among.Given as goal

abbrev pub invariant-loop-kind : goal.invariant-loop-kind
invariant-loop-kind l = type_among (drop l.kind-index l.types) l.text ≡ type_among l.types l.text
