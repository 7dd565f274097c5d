use Rattle.std.proofs.Common.{◌≡◌, ◌*ℤ◌, ◌∙◌, to_z, of_z, arith, rules}
use Rattle.std.specs.Int.{w128}
use Rattle.std.proofs.lemmas.Int.{ints, wraps}
use Rattle.operations.proofs.Wide.{kept_wide}
use Rattle.operations.proofs.operators.product.Goals as goal

pub returns : goal.returns
returns c =
    let same : to_z w128 (of_z w128 c.wrap_value.result) ≡ c.wrap_value.result = omega (arith, ints) in
    same ∙ (c.wrap_value.ensures ∙ (search (rules, wraps) ∙ kept_wide c.args.kind (c.args.left *ℤ c.args.right)))
