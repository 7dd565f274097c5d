use Rattle.std.proofs.Common.{refl, sym, ◌∙◌}
use Rattle.std.proofs.lemmas.Result.{err_from_is_err_and}
use Rattle.scan_ssa.specs.Making.{list_view}
use Rattle.scan_ssa.proofs.Faults.{handed_on, joins_first, joins_second}
use Rattle.scan_ssa.proofs.making.join.Goals as goal

pub returns-in_err-word-clause-too_many : goal.returns-in_err-word-clause-too_many
returns-in_err-word-clause-too_many c =
    let p = err_from_is_err_and c.from_residual.result c.from_residual.ensures.1 in
    handed_on c.from_residual.result p.0 _ _ _ _ _ p.1 p.2 refl c.in_err-word.ensures.too_many (joins_first c.args.operator c.args.kind c.args.left c.args.right (list_view c.args.making.now))

pub returns-in_err-zero-clause-too_many : goal.returns-in_err-zero-clause-too_many
returns-in_err-zero-clause-too_many c =
    let p = err_from_is_err_and c.from_residual-in_err-zero.result c.from_residual-in_err-zero.ensures.1 in
    handed_on c.from_residual-in_err-zero.result p.0 _ _ _ _ _ p.1 p.2 c.in_ok-word.ensures.limit c.in_err-zero.ensures.too_many
    (joins_second c.args.operator c.args.kind c.args.left c.args.right (list_view c.args.making.now) _ c.in_ok-word.ensures.list (sym c.divides.ensures ∙ c.if-divides.true))
