use Rattle.std.proofs.Common.{◌≡◌, ◌+◌, ◌*◌, ◌-◌, ◌++◌}
use Rattle.program_tree.specs.View.{cells_view}
use Rattle.scan_model.specs.Pairs.{candidates_view}
use Rattle.scan_model.specs.Candidates.{not_both_among, paths_of}
use Rattle.candidates.proofs.exclusive.add_among.Given as goal

abbrev pub invariant-loop-index : goal.invariant-loop-index
invariant-loop-index l =
    candidates_view l.found.items ++ not_both_among l.half.program.now l.half.start (paths_of (cells_view l.half.cells.now)) (l.place + 2 * l.index) (l.steps - l.index) ≡ candidates_view l.initial.found.items ++ not_both_among l.half.program.now l.half.start (paths_of (cells_view l.half.cells.now)) l.place l.steps
