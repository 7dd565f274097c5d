use Rattle.std.proofs.Common.{◌≡◌, ◌∙◌, ◌<◌, length, arith, ap}
use Rattle.word_circuits.specs.Words.{MadeWord}
use Rattle.word_circuits.specs.Products.{mul_from}
use Rattle.std.proofs.lemmas.Result.{err_from_is_err_and}
use Rattle.word_circuits.proofs.Turns.{mul_turn, no_lit}
use Rattle.word_circuits.proofs.Growth.{handed_on}
use Rattle.word_circuits.proofs.products.mul.Goals as goal

pub returns-in_err-sum-clause-too_many : goal.returns-in_err-sum-clause-too_many
returns-in_err-sum-clause-too_many c =
    let p = err_from_is_err_and c.from_residual.result c.from_residual.ensures.1 in
    handed_on c.from_residual.result p.0 _ _ _ p.1 p.2 c.in_err-sum.ensures.too_many
    (mul_turn c.args.a.now c.args.b.now c.loop-i.i no_lit c.loop-i.sum.items c.as_slice.result.now c.loop-i.circuit _ (omega arith) c.as_slice.ensures.value (ap (λ (m : MadeWord). m.net) (c.loop-i.invariant.same ∙ ap (λ s. mul_from c.args.a.now 0 c.args.b.now s c.args.circuit.now) c.in-Ok.ensures.word)))
