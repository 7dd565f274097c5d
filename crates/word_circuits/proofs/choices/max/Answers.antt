use Rattle.std.proofs.Common.{◌≡◌}
use Rattle.std.proofs.lemmas.Result.{err_from_is_err_and}
use Rattle.word_circuits.proofs.Steps.{after_less_max}
use Rattle.word_circuits.proofs.Growth.{handed_on}
use Rattle.word_circuits.proofs.choices.max.Goals as goal

pub returns-in_err-less-clause-too_many : goal.returns-in_err-less-clause-too_many
returns-in_err-less-clause-too_many c =
    let p = err_from_is_err_and c.from_residual.result c.from_residual.ensures.1 in
    handed_on c.from_residual.result p.0 _ _ _ p.1 p.2 c.in_err-less.ensures.too_many
    (after_less_max c.args.signed c.args.a.now c.args.b.now c.args.circuit.now)
