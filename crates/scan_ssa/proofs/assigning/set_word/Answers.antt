use Rattle.std.proofs.Common.{refl}
use Rattle.std.proofs.lemmas.Result.{err_from_is_err_and}
use Rattle.program_tree.specs.View.{expr_view}
use Rattle.scan_ssa.specs.Making.{list_view}
use Rattle.scan_ssa.proofs.Faults.{handed_on, sets_first}
use Rattle.scan_ssa.proofs.assigning.set_word.Goals as goal

pub returns-in_err-word-clause-too_many : goal.returns-in_err-word-clause-too_many
returns-in_err-word-clause-too_many c =
    let p = err_from_is_err_and c.from_residual.result c.from_residual.ensures.1 in
    handed_on c.from_residual.result p.0 _ _ _ _ _ p.1 p.2 refl c.in_err-word.ensures.too_many (sets_first c.args.target c.args.held c.args.store.now (expr_view c.args.expr.now) (list_view c.args.making.now) c.word_at-making.result c.word_at-making.ensures)
