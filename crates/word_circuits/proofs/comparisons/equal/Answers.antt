use Rattle.std.proofs.Common.{◌≡◌, ◌<◌, length, arith, ap}
use Rattle.gates.specs.Netlists.{Made}
use Rattle.std.proofs.lemmas.Result.{err_from_is_err_and}
use Rattle.word_circuits.proofs.Turns.{eq_turn, no_lit}
use Rattle.word_circuits.proofs.Growth.{handed_on}
use Rattle.word_circuits.proofs.comparisons.equal.Goals as goal

pub returns-in_err-same-clause-too_many : goal.returns-in_err-same-clause-too_many
returns-in_err-same-clause-too_many c =
    let p = err_from_is_err_and c.from_residual.result c.from_residual.ensures.1 in
    handed_on c.from_residual.result p.0 _ _ _ p.1 p.2 c.in_err-same.ensures.too_many
    (eq_turn c.loop-i.same c.args.a.now c.args.b.now c.loop-i.i no_lit c.loop-i.circuit _ (omega arith) (omega arith) (ap (λ (m : Made). m.net) c.loop-i.invariant.same))
