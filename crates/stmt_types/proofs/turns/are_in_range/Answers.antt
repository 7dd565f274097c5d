use Rattle.std.proofs.Common.{◌≡◌, ◌∙◌, sym, ap, ap₂, arith, true, Bool, ◌&&◌, ℤ}
use Rattle.std.specs.Prelude.{nat_le}
use Rattle.std.proofs.lemmas.Int.{ints}
use Rattle.plc_types.specs.Types.{in_range}
use Rattle.stmt_types.specs.Steps.{steps_within}
use Rattle.stmt_types.proofs.StepLemmas.{by_steps}
use Rattle.stmt_types.proofs.turns.are_in_range.Goals as goal
use mir.Syntax.{w128}
use mir.Val.{to_z, of_z}

pub returns-then-in_range : goal.returns-then-in_range
returns-then-in_range c =
    let r = c.args.range in
    let first : to_z w128 (of_z w128 c.args.first) ≡ c.args.first = omega (arith, ints) in
    let step : to_z w128 (of_z w128 c.args.step) ≡ c.args.step = omega (arith, ints) in
    let within : in_range c.args.first r ≡ true = ap (λ (x : ℤ). in_range x r) (sym first) ∙ sym c.in_range.ensures ∙ c.if-in_range.true in
    let steps : c.steps_within.result ≡ steps_within c.args.first c.args.step r = c.steps_within.ensures ∙ ap₂ (λ (x y : ℤ). steps_within x y r) first step in
    ap₂ nat_le c.from.ensures steps ∙ ap (λ (b : Bool). b && nat_le c.args.count (steps_within c.args.first c.args.step r)) (sym within) ∙ by_steps c.args.count c.args.first c.args.step r c.requires
