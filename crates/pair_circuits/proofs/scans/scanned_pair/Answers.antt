use Rattle.std.proofs.lemmas.Result.{err_from_is_err_and}
use Rattle.word_circuits.proofs.Growth.{handed_on}
use Rattle.node_core.specs.Scans.{scan_view}
use Rattle.pair_circuits.specs.Views.{pair_view}
use Rattle.pair_circuits.proofs.Composed.{after_old_scan}
use Rattle.pair_circuits.proofs.scans.scanned_pair.Goals as goal

pub returns-in_err-of_old-clause-too_many : goal.returns-in_err-of_old-clause-too_many
returns-in_err-of_old-clause-too_many c =
    let p = err_from_is_err_and c.from_residual.result c.from_residual.ensures.1 in
    handed_on c.from_residual.result p.0 _ _ _ p.1 p.2 c.in_err-of_old.ensures.too_many
    (after_old_scan (scan_view c.args.old.now) (scan_view c.args.new.now) (pair_view c.args.pair) c.args.circuit.now)
