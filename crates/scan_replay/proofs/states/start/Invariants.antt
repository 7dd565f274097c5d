use Rattle.std.proofs.Common.{◌≡◌, take}
use Rattle.program_tree.specs.View.{cells_view}
use Rattle.scan_model.specs.Scans.{initial}
use Rattle.scan_replay.proofs.states.start.Given as goal

abbrev pub invariant-loop-cell : goal.invariant-loop-cell
invariant-loop-cell l = l.state.items ≡ initial (cells_view (take l.cell-index l.cells))
