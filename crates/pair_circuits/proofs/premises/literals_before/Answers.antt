use Rattle.std.proofs.lemmas.Result.{err_from_is_err_and}
use Rattle.word_circuits.proofs.Growth.{handed_on}
use Rattle.node_circuits.specs.NodeWords.{words_view}
use Rattle.pair_circuits.specs.Views.{parts_view, pair_view}
use Rattle.pair_circuits.proofs.Composed.{after_outside, after_before}
use Rattle.pair_circuits.proofs.premises.literals_before.Goals as goal

pub returns-in_err-outside-clause-too_many : goal.returns-in_err-outside-clause-too_many
returns-in_err-outside-clause-too_many c =
    let p = err_from_is_err_and c.from_residual.result c.from_residual.ensures.1 in
    handed_on c.from_residual.result p.0 _ _ _ p.1 p.2 c.in_err-outside.ensures.too_many
    (after_outside (parts_view c.args.parts.now) (pair_view c.args.pair.now) (words_view c.args.inputs.now) c.args.circuit.now)

pub returns-in_err-before-clause-too_many : goal.returns-in_err-before-clause-too_many
returns-in_err-before-clause-too_many c =
    let p = err_from_is_err_and c.from_residual-in_err-before.result c.from_residual-in_err-before.ensures.1 in
    handed_on c.from_residual-in_err-before.result p.0 _ _ _ p.1 p.2 c.in_err-before.ensures.too_many
    (rw c.as_slice.ensures.value (after_before (parts_view c.args.parts.now) (pair_view c.args.pair.now) (words_view c.args.inputs.now) c.args.circuit.now c.outside_all.new.circuit c.in_ok-outside.ensures.net))
