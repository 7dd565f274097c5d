use Rattle.std.proofs.Common.{◌≡◌, ℕ, List, []}
use Rattle.sfc_shape.specs.ShapeView.{listed}
use Rattle.sfc_shape.proofs.associations.entered.Given as goal

abbrev pub invariant-loop-action : goal.invariant-loop-action
invariant-loop-action l = (text : List ℕ) → listed l.associations text ≡ []
