use Rattle.std.proofs.Common.{◌≡◌, length, drop}
use Rattle.program_tree.specs.View.{cells_view}
use Rattle.scan_model.specs.Scans.{ranges_of}
use Rattle.queries.specs.Ranges.{are_in_range}
use Rattle.pair_trial.proofs.ranges.are_in_range.Given as goal

abbrev pub invariant-loop-place : goal.invariant-loop-place
invariant-loop-place l = record {
  long : length l.cells ≡ length l.values;
  rest : are_in_range (ranges_of (cells_view l.cells)) l.values ≡ are_in_range (ranges_of (cells_view (drop l.place l.cells))) (drop l.place l.values);
}
