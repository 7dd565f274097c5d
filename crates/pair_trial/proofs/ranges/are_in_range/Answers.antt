use Rattle.std.proofs.Common.{sym}
use Rattle.pair_trial.proofs.RangeLemmas.{unequal_cells}
use Rattle.pair_trial.proofs.ranges.are_in_range.Goals as goal

pub returns-then-cells-values : goal.returns-then-cells-values
returns-then-cells-values c = sym (unequal_cells _ _ c.if-cells-values.true)
