use Rattle.std.proofs.Common.{◌≡◌, ◌≤◌, ◌*ℤ◌, ◌∙◌, to_z, of_z, arith, rules}
use Rattle.std.specs.Int.{w128}
use Rattle.std.proofs.lemmas.Int.{ints, wraps}
use Rattle.num_core.proofs.Multiples.{wrap_kept_wide}
use Rattle.num_core.proofs.wrapping.mul.Goals as goal

pub returns : goal.returns
returns c =
    let few : c.args.t.width ≤ 128 = omega (arith, c.args.t.at_most_64_bits) in
    let same : to_z w128 (of_z w128 c.wrap.result) ≡ c.wrap.result = omega (arith, ints) in
    same ∙ (c.wrap.ensures.value ∙ (search (rules, wraps) ∙ wrap_kept_wide c.args.t.width c.args.t.signed (c.args.a *ℤ c.args.b) c.args.t.some_bits few))
