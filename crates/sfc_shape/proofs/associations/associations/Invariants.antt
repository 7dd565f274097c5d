use Rattle.std.proofs.Common.{◌≡◌, ℕ, List, take}
use Rattle.sfc_shape.specs.Shapes.{associated_from}
use Rattle.sfc_shape.specs.ShapeView.{seen_steps, listed}
use Rattle.sfc_shape.proofs.associations.associations.Given as goal

abbrev pub invariant-loop-number : goal.invariant-loop-number
invariant-loop-number l = (text : List ℕ) → listed l.associations text ≡ associated_from text 0 (seen_steps (take l.number l.steps))
