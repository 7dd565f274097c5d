use Rattle.std.proofs.lemmas.Result.{err_from_is_err_and}
use Rattle.word_circuits.proofs.Growth.{handed_on}
use Rattle.node_circuits.specs.NodeWords.{words_view}
use Rattle.pair_circuits.specs.Views.{parts_view, pair_view}
use Rattle.pair_circuits.proofs.Composed.{after_old, after_new, after_lines}
use Rattle.pair_circuits.proofs.premises.outside_all.Goals as goal

pub returns-in_err-of_old-clause-too_many : goal.returns-in_err-of_old-clause-too_many
returns-in_err-of_old-clause-too_many c =
    let p = err_from_is_err_and c.from_residual.result c.from_residual.ensures.1 in
    handed_on c.from_residual.result p.0 _ _ _ p.1 p.2 c.in_err-of_old.ensures.too_many
    (rw (c.as_slice.ensures.value, c.as_slice-2.ensures.value) (after_old (parts_view c.args.parts.now) (pair_view c.args.pair.now) (words_view c.args.inputs.now) c.args.circuit.now))

pub returns-in_err-of_new-clause-too_many : goal.returns-in_err-of_new-clause-too_many
returns-in_err-of_new-clause-too_many c =
    let p = err_from_is_err_and c.from_residual-in_err-of_new.result c.from_residual-in_err-of_new.ensures.1 in
    handed_on c.from_residual-in_err-of_new.result p.0 _ _ _ p.1 p.2 c.in_err-of_new.ensures.too_many
    (rw (c.as_slice-3.ensures.value, c.as_slice-4.ensures.value) (after_new (parts_view c.args.parts.now) (pair_view c.args.pair.now) (words_view c.args.inputs.now) c.args.circuit.now c.outside_cells.new.circuit (rw (c.as_slice.ensures.value, c.as_slice-2.ensures.value) at c.in_ok-of_old.ensures.net)))

pub returns-in_err-of_lines-clause-too_many : goal.returns-in_err-of_lines-clause-too_many
returns-in_err-of_lines-clause-too_many c =
    let p = err_from_is_err_and c.from_residual-in_err-of_lines.result c.from_residual-in_err-of_lines.ensures.1 in
    handed_on c.from_residual-in_err-of_lines.result p.0 _ _ _ p.1 p.2 c.in_err-of_lines.ensures.too_many
    (rw c.as_slice-5.ensures.value (after_lines (parts_view c.args.parts.now) (pair_view c.args.pair.now) (words_view c.args.inputs.now) c.args.circuit.now c.outside_cells.new.circuit c.outside_cells-2.new.circuit (rw (c.as_slice.ensures.value, c.as_slice-2.ensures.value) at c.in_ok-of_old.ensures.net) (rw (c.as_slice-3.ensures.value, c.as_slice-4.ensures.value) at c.in_ok-of_new.ensures.net)))
