use Rattle.std.proofs.Common.{◌≡◌, length, take}
use Rattle.program_tree.specs.View.{cells_view}
use Rattle.scan_model.specs.Scans.{initial}
use Rattle.scan_replay.proofs.states.reset.Given as goal

abbrev pub invariant-loop-place : goal.invariant-loop-place
invariant-loop-place l = record {
  front : take l.place l.state ≡ initial (cells_view (take l.place l.cells));
  long : length l.state ≡ length l.cells;
}
