use Rattle.std.proofs.Common.{arith}
use Rattle.std.proofs.lemmas.Result.{err_from_is_err_and}
use Rattle.node_core.specs.Words.{made, of_many}
use Rattle.scan_ssa.specs.Making.{list_view}
use Rattle.scan_ssa.specs.Folds.{fold_node}
use Rattle.scan_ssa.proofs.Faults.{handed_on}
use Rattle.scan_ssa.proofs.FoldLemmas.{fold_step}
use Rattle.scan_ssa.proofs.functions.fold.Goals as goal

pub returns-in_err-word-clause-too_many : goal.returns-in_err-word-clause-too_many
returns-in_err-word-clause-too_many c =
    let p = err_from_is_err_and c.from_residual.result c.from_residual.ensures.1 in
    let whole = of_many (fold_node c.args.least c.args.kind) c.args.kind c.args.words.now (list_view c.args.making.now) in
    handed_on c.from_residual.result p.0 _ _ _ (made c.fold_node-node.result (list_view c.loop-i.making)).list whole.list p.1 p.2 c.loop-i.invariant.limit c.in_err-word.ensures.too_many
    (fold_step (fold_node c.args.least c.args.kind) c.loop-i.word c.args.words.now c.loop-i.i (list_view c.loop-i.making) c.fold_node-node.result whole (omega arith) c.fold_node-node.ensures c.loop-i.invariant.rest)
