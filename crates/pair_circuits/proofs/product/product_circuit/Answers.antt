use Rattle.std.proofs.lemmas.Result.{err_from_is_err_and}
use Rattle.pair_circuits.specs.Views.{parts_view}
use Rattle.word_circuits.proofs.Growth.{handed_on}
use Rattle.pair_circuits.proofs.Composed.{product_whole}
use Rattle.pair_circuits.proofs.product.product_circuit.Goals as goal

pub returns-in_err-scanned-clause-too_many : goal.returns-in_err-scanned-clause-too_many
returns-in_err-scanned-clause-too_many c =
    let p = err_from_is_err_and c.from_residual.result c.from_residual.ensures.1 in
    handed_on c.from_residual.result p.0 _ _ _ p.1 p.2 c.in_err-scanned.ensures.too_many
    (product_whole (parts_view c.args.parts.now) c.args.limit _ _ _ (cc c.in-Ok.ensures) (cc c.in-Ok-free_words.ensures) (cc c.in-Ok-free_words-2.ensures) (cc))
