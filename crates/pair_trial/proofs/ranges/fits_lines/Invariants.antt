use Rattle.std.proofs.Common.{◌≡◌, length, drop}
use Rattle.scan_model.specs.Pairs.{fits_lines}
use Rattle.pair_trial.proofs.ranges.fits_lines.Given as goal

abbrev pub invariant-loop-i : goal.invariant-loop-i
invariant-loop-i l = record {
  long : length l.lines ≡ length l.row;
  rest : fits_lines l.lines l.row ≡ fits_lines (drop l.i l.lines) (drop l.i l.row);
}
