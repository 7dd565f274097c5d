use Rattle.std.proofs.Common.{◌∙◌, ap}
use Rattle.std.proofs.lemmas.Result.{err_from_is_err_and}
use Rattle.word_circuits.proofs.Growth.{handed_on}
use Rattle.node_circuits.specs.NodeWords.{words_view}
use Rattle.pair_circuits.specs.Views.{parts_view, pair_view}
use Rattle.query_formulas.specs.Products.{Consequences}
use Rattle.pair_circuits.proofs.Composed.{after_premises, after_row, after_consequences, product_behind}
use Rattle.pair_circuits.proofs.product.product_from.Goals as goal

pub returns-in_err-premises-clause-too_many : goal.returns-in_err-premises-clause-too_many
returns-in_err-premises-clause-too_many c =
    let p = err_from_is_err_and c.from_residual.result c.from_residual.ensures.1 in
    handed_on c.from_residual.result p.0 _ _ _ p.1 p.2 c.in_err-premises.ensures.too_many
    (after_premises (parts_view c.args.parts.now) (pair_view c.args.pair.now) (words_view c.args.inputs.now) c.args.circuit.now)

pub returns-in_err-row-clause-too_many : goal.returns-in_err-row-clause-too_many
returns-in_err-row-clause-too_many c =
    let p = err_from_is_err_and c.from_residual-in_err-row.result c.from_residual-in_err-row.ensures.1 in
    handed_on c.from_residual-in_err-row.result p.0 _ _ _ p.1 p.2 c.in_err-row.ensures.too_many
    (after_row (parts_view c.args.parts.now) (pair_view c.args.pair.now) _ (words_view c.args.inputs.now) c.args.circuit.now _ c.in-Ok.ensures c.in_ok-premises.ensures.net)

pub returns-in_err-behind-clause-too_many : goal.returns-in_err-behind-clause-too_many
returns-in_err-behind-clause-too_many c =
    let p = err_from_is_err_and c.from_residual-in_err-behind.result c.from_residual-in_err-behind.ensures.1 in
    handed_on c.from_residual-in_err-behind.result p.0 _ _ _ p.1 p.2 c.in_err-behind.ensures.too_many
    (after_consequences (parts_view c.args.parts.now) (pair_view c.args.pair.now) _ _ (words_view c.args.inputs.now) c.args.circuit.now _ _ c.in-Ok.ensures c.in_ok-premises.ensures.net c.in_ok-row.ensures.pair c.in_ok-row.ensures.net)

pub returns-clause-after : goal.returns-clause-after
returns-clause-after c = c.in_ok-behind.ensures.after ∙ ap (λ (x : Consequences). x.after) (product_behind (parts_view c.args.parts.now) (pair_view c.args.pair.now) _ _ (words_view c.args.inputs.now) c.args.circuit.now _ _ c.in-Ok.ensures c.in_ok-premises.ensures.net c.in_ok-row.ensures.pair c.in_ok-row.ensures.net)

pub returns-clause-relates : goal.returns-clause-relates
returns-clause-relates c = c.in_ok-behind.ensures.relates ∙ ap (λ (x : Consequences). x.relates) (product_behind (parts_view c.args.parts.now) (pair_view c.args.pair.now) _ _ (words_view c.args.inputs.now) c.args.circuit.now _ _ c.in-Ok.ensures c.in_ok-premises.ensures.net c.in_ok-row.ensures.pair c.in_ok-row.ensures.net)

pub returns-clause-net : goal.returns-clause-net
returns-clause-net c = c.in_ok-behind.ensures.net ∙ ap (λ (x : Consequences). x.net) (product_behind (parts_view c.args.parts.now) (pair_view c.args.pair.now) _ _ (words_view c.args.inputs.now) c.args.circuit.now _ _ c.in-Ok.ensures c.in_ok-premises.ensures.net c.in_ok-row.ensures.pair c.in_ok-row.ensures.net)
