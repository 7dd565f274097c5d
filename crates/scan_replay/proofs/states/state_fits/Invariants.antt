use Rattle.std.proofs.Common.{◌≡◌, length, drop}
use Rattle.program_tree.specs.View.{cells_view}
use Rattle.scan_model.specs.Scans.{ranges_of}
use Rattle.scan_model.specs.InRange.{IsInRange}
use Rattle.scan_replay.proofs.states.state_fits.Given as goal

abbrev pub invariant-loop-place : goal.invariant-loop-place
invariant-loop-place l = record {
  long : length l.cells ≡ length l.values;
  so_far : IsInRange (ranges_of (cells_view (drop l.place l.cells))) (drop l.place l.values) → IsInRange (ranges_of (cells_view l.cells)) l.values;
  rest : IsInRange (ranges_of (cells_view l.cells)) l.values → IsInRange (ranges_of (cells_view (drop l.place l.cells))) (drop l.place l.values);
}
