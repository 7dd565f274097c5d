use Rattle.std.proofs.Common.{◌≡◌, ℕ, List, take}
use Rattle.std.specs.HashMap.{get_by_text}
use Rattle.sfc_shape.specs.ShapeView.{seen_steps, number_found}
use Rattle.sfc_shape.proofs.numbers.numbers.Given as goal

abbrev pub invariant-loop-number : goal.invariant-loop-number
invariant-loop-number l = (text : List ℕ) → get_by_text l.numbers text ≡ number_found 0 (seen_steps (take l.number l.steps)) text
