use Rattle.std.proofs.Common.{◌≡◌, ◌∙◌}
use Rattle.std.proofs.lemmas.Result.{err_from_is_err_and}
use Rattle.word_circuits.proofs.Steps.{after_difference}
use Rattle.word_circuits.proofs.Growth.{handed_on}
use Rattle.word_circuits.proofs.divide.divide_step.Goals as goal

pub returns-in_err-difference-clause-too_many : goal.returns-in_err-difference-clause-too_many
returns-in_err-difference-clause-too_many c =
    let p = err_from_is_err_and c.from_residual.result c.from_residual.ensures.1 in
    handed_on c.from_residual.result p.0 _ _ _ p.1 p.2 c.in_err-difference.ensures.too_many
    (after_difference c.args.bit c.args.rest.now c.args.b.now c.as_slice.result.now c.as_slice-2.result.now c.args.circuit.now (c.as_slice.ensures.value ∙ c.in-Ok.ensures.word) (c.as_slice-2.ensures.value ∙ c.in-Ok-joined.ensures.word))
