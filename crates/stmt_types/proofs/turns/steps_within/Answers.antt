use Rattle.std.proofs.Common.{◌≡◌, ◌∙◌, ap, arith, ℕ, ◌/◌, ℤ}
use Rattle.std.specs.Prelude.{◌-ℤ◌, unsigned_abs}
use Rattle.std.proofs.lemmas.Int.{ints}
use Rattle.stmt_types.specs.Steps.{end_towards}
use Rattle.stmt_types.proofs.StepLemmas.{same_distance}
use Rattle.stmt_types.proofs.turns.steps_within.Goals as goal
use mir.Syntax.{w128}
use mir.Val.{to_z, of_z}

pub returns : goal.returns
returns c =
    let end = c.end_towards.result in
    let step : to_z w128 (of_z w128 c.args.step) ≡ c.args.step = omega (arith, ints) in
    let kept : to_z w128 (of_z w128 end) ≡ end = omega (arith, ints) in
    let n : c.abs_diff.result ≡ unsigned_abs (end_towards c.args.step c.args.range -ℤ c.args.first) =
    c.abs_diff.ensures ∙ same_distance (to_z w128 (of_z w128 end)) (to_z w128 (of_z w128 c.args.first)) (end_towards c.args.step c.args.range) c.args.first (kept ∙ c.end_towards.ensures ∙ ap (λ (x : ℤ). end_towards x c.args.range) step) (omega (arith, ints)) in
    let s : c.unsigned_abs.result ≡ unsigned_abs c.args.step = c.unsigned_abs.ensures.value ∙ ap unsigned_abs step in
    ap (λ (x : ℕ). x / c.unsigned_abs.result) n ∙ ap (λ (y : ℕ). unsigned_abs (end_towards c.args.step c.args.range -ℤ c.args.first) / y) s
