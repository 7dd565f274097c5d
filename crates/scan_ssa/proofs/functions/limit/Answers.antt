use Rattle.std.proofs.Common.{refl, arith}
use Rattle.std.proofs.lemmas.Result.{err_from_is_err_and}
use Rattle.scan_ssa.specs.Making.{list_view}
use Rattle.scan_ssa.proofs.Faults.{handed_on, limits_first}
use Rattle.scan_ssa.proofs.functions.limit.Goals as goal

pub returns-in_err-left-clause-too_many : goal.returns-in_err-left-clause-too_many
returns-in_err-left-clause-too_many c =
    let p = err_from_is_err_and c.from_residual.result c.from_residual.ensures.1 in
    handed_on c.from_residual.result p.0 _ _ _ _ _ p.1 p.2 refl c.in_err-left.ensures.too_many (limits_first c.args.kind c.args.words.now (list_view c.args.making.now) (omega arith))
