use Rattle.std.proofs.Common.{◌≡◌, ◌∙◌, ap, length}
use Rattle.std.proofs.lemmas.Int.{to_z-of_z}
use Rattle.word_circuits.specs.Words.{constant_of}
use Rattle.std.proofs.lemmas.Result.{err_from_is_err_and}
use Rattle.word_circuits.proofs.Steps.{after_below, after_above}
use Rattle.word_circuits.proofs.Growth.{handed_on}
use Rattle.word_circuits.proofs.comparisons.outside.Goals as goal

pub returns-in_err-below-clause-too_many : goal.returns-in_err-below-clause-too_many
returns-in_err-below-clause-too_many c =
    let p = err_from_is_err_and c.from_residual.result c.from_residual.ensures.1 in
    handed_on c.from_residual.result p.0 _ _ _ p.1 p.2 c.in_err-below.ensures.too_many
    (after_below c.args.signed c.args.word.now c.args.low c.args.high c.args.circuit.now c.as_slice.result.now (c.as_slice.ensures.value ∙ c.in-Ok.ensures.word ∙ ap (constant_of (length c.args.word.now)) (to_z-of_z _ _ c.ranges.low)))

pub returns-in_err-above-clause-too_many : goal.returns-in_err-above-clause-too_many
returns-in_err-above-clause-too_many c =
    let p = err_from_is_err_and c.from_residual-in_err-above.result c.from_residual-in_err-above.ensures.1 in
    handed_on c.from_residual-in_err-above.result p.0 _ _ _ p.1 p.2 c.in_err-above.ensures.too_many
    (after_above c.args.signed c.args.word.now c.args.low c.args.high c.args.circuit.now c.less.new.circuit c.as_slice.result.now c.as_slice-2.result.now (c.as_slice.ensures.value ∙ c.in-Ok.ensures.word ∙ ap (constant_of (length c.args.word.now)) (to_z-of_z _ _ c.ranges.low)) (c.as_slice-2.ensures.value ∙ c.in-Ok-constant.ensures.word ∙ ap (constant_of (length c.args.word.now)) (to_z-of_z _ _ c.ranges.high)) c.in_ok-below.ensures.net)
