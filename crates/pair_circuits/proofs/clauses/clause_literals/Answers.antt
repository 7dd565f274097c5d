use Rattle.std.proofs.Common.{arith}
use Rattle.std.proofs.lemmas.Result.{err_from_is_err_and}
use Rattle.word_circuits.proofs.Growth.{handed_on}
use Rattle.pair_circuits.proofs.Turns.{clauses_turn}
use Rattle.pair_circuits.proofs.clauses.clause_literals.Goals as goal

pub returns-in_err-held-clause-too_many : goal.returns-in_err-held-clause-too_many
returns-in_err-held-clause-too_many c =
    let p = err_from_is_err_and c.from_residual.result c.from_residual.ensures.1 in
    handed_on c.from_residual.result p.0 _ _ _ p.1 p.2 c.in_err-held.ensures.too_many
    (clauses_turn c.args.clauses.now c.loop-clause.clause-index _ _ _ c.loop-clause.circuit _ (omega arith) c.clause-item.is c.loop-clause.invariant.starts c.loop-clause.invariant.net)
