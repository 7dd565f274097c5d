use Rattle.std.proofs.lemmas.Result.{err_from_is_err_and}
use Rattle.word_circuits.proofs.Growth.{handed_on}
use Rattle.pair_circuits.specs.Views.{parts_view, pair_view}
use Rattle.pair_circuits.proofs.Composed.{after_scans, after_candidates, after_relates}
use Rattle.pair_circuits.proofs.consequences.literals_behind.Goals as goal

pub returns-in_err-behind-clause-too_many : goal.returns-in_err-behind-clause-too_many
returns-in_err-behind-clause-too_many c =
    let p = err_from_is_err_and c.from_residual.result c.from_residual.ensures.1 in
    handed_on c.from_residual.result p.0 _ _ _ p.1 p.2 c.in_err-behind.ensures.too_many
    (after_scans (parts_view c.args.parts.now) (pair_view c.args.pair) c.args.circuit.now)

pub returns-in_err-after-clause-too_many : goal.returns-in_err-after-clause-too_many
returns-in_err-after-clause-too_many c =
    let p = err_from_is_err_and c.from_residual-in_err-after.result c.from_residual-in_err-after.ensures.1 in
    handed_on c.from_residual-in_err-after.result p.0 _ _ _ p.1 p.2 c.in_err-after.ensures.too_many
    (rw c.as_slice.ensures.value (after_candidates (parts_view c.args.parts.now) (pair_view c.args.pair) _ c.args.circuit.now _ c.in_ok-behind.ensures.pair c.in_ok-behind.ensures.net))

pub returns-in_err-relates-clause-too_many : goal.returns-in_err-relates-clause-too_many
returns-in_err-relates-clause-too_many c =
    let p = err_from_is_err_and c.from_residual-in_err-relates.result c.from_residual-in_err-relates.ensures.1 in
    handed_on c.from_residual-in_err-relates.result p.0 _ _ _ p.1 p.2 c.in_err-relates.ensures.too_many
    (rw c.as_slice-2.ensures.value (after_relates (parts_view c.args.parts.now) (pair_view c.args.pair) _ c.args.circuit.now _ _ c.in_ok-behind.ensures.pair c.in_ok-behind.ensures.net (rw c.as_slice.ensures.value at c.in_ok-after.ensures.net)))
