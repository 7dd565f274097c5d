use Rattle.std.proofs.Common.{◌≡◌, ◌∙◌, [], ◌<◌, length, arith, ap, reverse}
use Rattle.word_circuits.specs.Divisions.{MadeRatio, divide_from}
use Rattle.std.proofs.lemmas.Result.{err_from_is_err_and}
use Rattle.word_circuits.proofs.Turns.{divide_turn, no_lit}
use Rattle.word_circuits.proofs.Growth.{handed_on}
use Rattle.word_circuits.proofs.divide.divide.Goals as goal

pub returns-in_err-step-clause-too_many : goal.returns-in_err-step-clause-too_many
returns-in_err-step-clause-too_many c =
    let p = err_from_is_err_and c.from_residual.result c.from_residual.ensures.1 in
    handed_on c.from_residual.result p.0 _ _ _ p.1 p.2 c.in_err-step.ensures.too_many
    (divide_turn c.deref-bit-items.result.now c.args.b.now c.loop-bit.rest.items c.as_slice.result.now (reverse c.loop-bit.quotient.items) c.loop-bit.bit-index no_lit c.loop-bit.circuit _ (omega arith) c.as_slice.ensures.value (ap (λ (m : MadeRatio). m.net) (c.loop-bit.invariant.same ∙ ap (λ xs. divide_from xs c.args.b.now c.in-Ok-zeros.rest.items [] c.args.circuit.now) (c.deref-bit-items.ensures.value ∙ c.in-Ok.ensures) ∙ ap (λ r. divide_from (reverse c.args.a.now) c.args.b.now r [] c.args.circuit.now) c.in-Ok-zeros.ensures.word)))
