use Rattle.std.proofs.Common.{◌≡◌, ◌∙◌, sym, ap, arith, true, false, ◌≢◌, ℕ, ◌+◌, ◌/◌, min}
use Rattle.std.specs.Prelude.{◌-ℤ◌, unsigned_abs}
use Rattle.std.proofs.Math.IntN.{pos}
use Rattle.std.proofs.lemmas.Int.{ints}
use Rattle.typing.specs.Constants.{goes_on}
use Rattle.stmt_types.proofs.StepLemmas.{same_going, same_distance, no_turns, turns_without_step, turns_by_division}
use Rattle.stmt_types.proofs.turns.turn_count.Goals as goal
use mir.Syntax.{w128}
use mir.Val.{to_z, of_z}

pub returns-then-not-goes_on : goal.returns-then-not-goes_on
returns-then-not-goes_on c =
    let off : goes_on c.args.first c.args.last c.args.step ≡ false =
    same_going c.args.first (to_z w128 (of_z w128 c.args.first)) c.args.last (to_z w128 (of_z w128 c.args.last)) c.args.step (to_z w128 (of_z w128 c.args.step)) (omega (arith, ints)) (omega (arith, ints)) (omega (arith, ints)) ∙ sym c.goes_on.ensures ∙ c.if-not-goes_on.true in
    sym (no_turns c.args.first c.args.last c.args.step off)

pub returns-then-step-eq0 : goal.returns-then-step-eq0
returns-then-step-eq0 c =
    let on : goes_on c.args.first c.args.last c.args.step ≡ true =
    same_going c.args.first (to_z w128 (of_z w128 c.args.first)) c.args.last (to_z w128 (of_z w128 c.args.last)) c.args.step (to_z w128 (of_z w128 c.args.step)) (omega (arith, ints)) (omega (arith, ints)) (omega (arith, ints)) ∙ sym c.goes_on.ensures ∙ c.if-not-goes_on.false in
    let none : c.args.step ≡ pos 0 = omega (arith, ints) in
    sym (turns_without_step c.args.first c.args.last c.args.step on none)

pub returns : goal.returns
returns c =
    let on : goes_on c.args.first c.args.last c.args.step ≡ true =
    same_going c.args.first (to_z w128 (of_z w128 c.args.first)) c.args.last (to_z w128 (of_z w128 c.args.last)) c.args.step (to_z w128 (of_z w128 c.args.step)) (omega (arith, ints)) (omega (arith, ints)) (omega (arith, ints)) ∙ sym c.goes_on.ensures ∙ c.if-not-goes_on.false in
    let some : c.args.step ≢ pos 0 = omega (arith, ints) in
    let all = turns_by_division c.args.first c.args.last c.args.step on some in
    let n : c.abs_diff.result ≡ unsigned_abs (c.args.last -ℤ c.args.first) = c.abs_diff.ensures ∙ same_distance (to_z w128 (of_z w128 c.args.last)) (to_z w128 (of_z w128 c.args.first)) c.args.last c.args.first (omega (arith, ints)) (omega (arith, ints)) in
    let same : to_z w128 (of_z w128 c.args.step) ≡ c.args.step = omega (arith, ints) in
    let s : c.unsigned_abs.result ≡ unsigned_abs c.args.step = c.unsigned_abs.ensures.value ∙ ap unsigned_abs same in
    c.with_first.ensures ∙ ap (λ (x : ℕ). min 4097 (x / c.unsigned_abs.result + 1)) n ∙ ap (λ (y : ℕ). min 4097 (unsigned_abs (c.args.last -ℤ c.args.first) / y + 1)) s ∙ sym all
