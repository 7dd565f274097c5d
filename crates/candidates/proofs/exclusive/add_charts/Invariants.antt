use Rattle.std.proofs.Common.{◌≡◌, ◌++◌, drop}
use Rattle.program_tree.specs.View.{cells_view}
use Rattle.scan_model.specs.Pairs.{candidates_view}
use Rattle.scan_model.specs.Candidates.{exclusive_steps, paths_of}
use Rattle.candidates.proofs.exclusive.add_charts.Given as goal

abbrev pub invariant-loop-chart : goal.invariant-loop-chart
invariant-loop-chart l =
    candidates_view l.found.items ++ exclusive_steps l.half.program.now l.half.start (paths_of (cells_view l.half.cells.now)) (drop l.chart-index l.charts) ≡ candidates_view l.initial.found.items ++ exclusive_steps l.half.program.now l.half.start (paths_of (cells_view l.half.cells.now)) l.charts
