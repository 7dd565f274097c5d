use Rattle.std.proofs.Common.{◌≡◌, ◌∙◌}
use Rattle.std.proofs.lemmas.Result.{err_from_is_err_and}
use Rattle.word_circuits.proofs.Steps.{after_dividend, after_divisor, after_part}
use Rattle.word_circuits.proofs.Growth.{handed_on}
use Rattle.word_circuits.proofs.divide.signed_ratio.Goals as goal

pub returns-in_err-dividend-clause-too_many : goal.returns-in_err-dividend-clause-too_many
returns-in_err-dividend-clause-too_many c =
    let p = err_from_is_err_and c.from_residual.result c.from_residual.ensures.1 in
    handed_on c.from_residual.result p.0 _ _ _ p.1 p.2 c.in_err-dividend.ensures.too_many
    (after_dividend c.args.part c.args.a.now c.args.b.now c.args.circuit.now)

pub returns-in_err-divisor-clause-too_many : goal.returns-in_err-divisor-clause-too_many
returns-in_err-divisor-clause-too_many c =
    let p = err_from_is_err_and c.from_residual-in_err-divisor.result c.from_residual-in_err-divisor.ensures.1 in
    handed_on c.from_residual-in_err-divisor.result p.0 _ _ _ p.1 p.2 c.in_err-divisor.ensures.too_many
    (after_divisor c.args.part c.args.a.now c.args.b.now c.args.circuit.now c.abs.new.circuit c.in_ok-dividend.ensures.net)

pub returns-in_err-word-clause-too_many : goal.returns-in_err-word-clause-too_many
returns-in_err-word-clause-too_many c =
    let p = err_from_is_err_and c.from_residual-in_err-word.result c.from_residual-in_err-word.ensures.1 in
    handed_on c.from_residual-in_err-word.result p.0 _ _ _ p.1 p.2 c.in_err-word.ensures.too_many
    (after_part c.args.part c.args.a.now c.args.b.now c.as_slice.result.now c.as_slice-2.result.now c.args.circuit.now c.abs.new.circuit c.abs-2.new.circuit (c.as_slice.ensures.value ∙ c.in_ok-dividend.ensures.word) c.in_ok-dividend.ensures.net (c.as_slice-2.ensures.value ∙ c.in_ok-divisor.ensures.word) c.in_ok-divisor.ensures.net)
