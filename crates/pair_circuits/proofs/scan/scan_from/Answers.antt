use Rattle.std.proofs.Common.{◌∙◌, ap}
use Rattle.std.proofs.lemmas.Result.{err_from_is_err_and}
use Rattle.node_circuits.specs.NodeWords.{words_view}
use Rattle.pair_circuits.specs.Views.{parts_view, pair_view}
use Rattle.word_circuits.proofs.Growth.{handed_on}
use Rattle.query_formulas.specs.PairScans.{MadePair}
use Rattle.pair_circuits.proofs.BreakTurns.{after_ranges, after_loaded, after_both, after_all, scanned_same, relates_same}
use Rattle.pair_circuits.proofs.scan.scan_from.Goals as goal

pub returns-in_err-outside-clause-too_many : goal.returns-in_err-outside-clause-too_many
returns-in_err-outside-clause-too_many c =
    let p = err_from_is_err_and c.from_residual.result c.from_residual.ensures.1 in
    handed_on c.from_residual.result p.0 _ _ _ p.1 p.2 c.in_err-outside.ensures.too_many
    (rw (c.as_slice.ensures.value, c.as_slice-2.ensures.value) (after_ranges (parts_view c.args.parts.now) (words_view c.args.inputs.items) (pair_view c.args.pair) c.args.circuit.now))

pub returns-in_err-row-clause-too_many : goal.returns-in_err-row-clause-too_many
returns-in_err-row-clause-too_many c =
    let p = err_from_is_err_and c.from_residual-in_err-row.result c.from_residual-in_err-row.ensures.1 in
    handed_on c.from_residual-in_err-row.result p.0 _ _ _ p.1 p.2 c.in_err-row.ensures.too_many
    (rw c.as_slice-3.ensures.value (after_loaded (parts_view c.args.parts.now) (words_view c.args.inputs.items) (pair_view c.args.pair) c.args.circuit.now _ (rw (c.as_slice.ensures.value, c.as_slice-2.ensures.value) at c.in_ok-outside.ensures.net)))

pub returns-in_err-behind-clause-too_many : goal.returns-in_err-behind-clause-too_many
returns-in_err-behind-clause-too_many c =
    let p = err_from_is_err_and c.from_residual-in_err-behind.result c.from_residual-in_err-behind.ensures.1 in
    handed_on c.from_residual-in_err-behind.result p.0 _ _ _ p.1 p.2 c.in_err-behind.ensures.too_many
    (after_both (parts_view c.args.parts.now) (words_view c.args.inputs.items) (pair_view c.args.pair) c.args.circuit.now _ _ _ (rw (c.as_slice.ensures.value, c.as_slice-2.ensures.value) at c.in_ok-outside.ensures.net) (rw c.as_slice-3.ensures.value at c.in_ok-row.ensures.pair) (rw c.as_slice-3.ensures.value at c.in_ok-row.ensures.net))

pub returns-in_err-relates-clause-too_many : goal.returns-in_err-relates-clause-too_many
returns-in_err-relates-clause-too_many c =
    let p = err_from_is_err_and c.from_residual-in_err-relates.result c.from_residual-in_err-relates.ensures.1 in
    handed_on c.from_residual-in_err-relates.result p.0 _ _ _ p.1 p.2 c.in_err-relates.ensures.too_many
    (rw c.as_slice-4.ensures.value (after_all (parts_view c.args.parts.now) (words_view c.args.inputs.items) (pair_view c.args.pair) c.args.circuit.now _ _ _ _ _ (rw (c.as_slice.ensures.value, c.as_slice-2.ensures.value) at c.in_ok-outside.ensures.net) (rw c.as_slice-3.ensures.value at c.in_ok-row.ensures.pair) (rw c.as_slice-3.ensures.value at c.in_ok-row.ensures.net) c.in_ok-behind.ensures.pair c.in_ok-behind.ensures.net))

pub returns-clause-pair : goal.returns-clause-pair
returns-clause-pair c = c.in_ok-behind.ensures.pair ∙ ap (λ (x : MadePair). x.pair) (scanned_same (parts_view c.args.parts.now) (words_view c.args.inputs.items) (pair_view c.args.pair) c.args.circuit.now _ _ _ (rw (c.as_slice.ensures.value, c.as_slice-2.ensures.value) at c.in_ok-outside.ensures.net) (rw c.as_slice-3.ensures.value at c.in_ok-row.ensures.pair) (rw c.as_slice-3.ensures.value at c.in_ok-row.ensures.net))

pub returns-clause-net : goal.returns-clause-net
returns-clause-net c = (rw c.as_slice-4.ensures.value at c.in_ok-relates.ensures.net) ∙ relates_same (parts_view c.args.parts.now) (words_view c.args.inputs.items) (pair_view c.args.pair) c.args.circuit.now _ _ _ _ _ (rw (c.as_slice.ensures.value, c.as_slice-2.ensures.value) at c.in_ok-outside.ensures.net) (rw c.as_slice-3.ensures.value at c.in_ok-row.ensures.pair) (rw c.as_slice-3.ensures.value at c.in_ok-row.ensures.net) c.in_ok-behind.ensures.pair c.in_ok-behind.ensures.net
