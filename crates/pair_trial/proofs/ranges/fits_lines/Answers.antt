use Rattle.std.proofs.Common.{sym}
use Rattle.scan_replay.proofs.RowLemmas.{unequal_lines}
use Rattle.pair_trial.proofs.ranges.fits_lines.Goals as goal

pub returns-then-lines-row : goal.returns-then-lines-row
returns-then-lines-row c = sym (unequal_lines _ _ c.if-lines-row.true)
