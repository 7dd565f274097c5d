use Rattle.std.proofs.Common.{◌≡◌, take}
use Rattle.sfc_shape.proofs.associations.associations_by.Given as goal

abbrev pub invariant-loop-association : goal.invariant-loop-association
invariant-loop-association l = l.list.items ≡ take l.association-index l.association-items
