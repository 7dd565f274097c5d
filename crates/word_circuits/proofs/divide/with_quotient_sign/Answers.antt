use Rattle.std.proofs.Common.{◌≡◌}
use Rattle.std.proofs.lemmas.Result.{err_from_is_err_and}
use Rattle.word_circuits.proofs.Steps.{after_sign}
use Rattle.word_circuits.proofs.Growth.{handed_on}
use Rattle.word_circuits.proofs.divide.with_quotient_sign.Goals as goal

pub returns-in_err-sign-clause-too_many : goal.returns-in_err-sign-clause-too_many
returns-in_err-sign-clause-too_many c =
    let p = err_from_is_err_and c.from_residual.result c.from_residual.ensures.1 in
    handed_on c.from_residual.result p.0 _ _ _ p.1 p.2 c.in_err-sign.ensures.too_many
    (after_sign c.args.a c.args.b c.args.word.now c.args.circuit.now)
