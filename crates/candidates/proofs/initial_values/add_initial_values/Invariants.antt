use Rattle.std.proofs.Common.{◌≡◌, ◌++◌, ◌+◌, drop}
use Rattle.program_tree.specs.View.{cells_view}
use Rattle.scan_model.specs.Pairs.{candidates_view}
use Rattle.scan_model.specs.Candidates.{initial_values}
use Rattle.candidates.proofs.initial_values.add_initial_values.Given as goal

abbrev pub invariant-loop-index : goal.invariant-loop-index
invariant-loop-index l =
    candidates_view l.found.items ++ initial_values l.program (l.start + l.index) (cells_view (drop l.index l.cells)) ≡ candidates_view l.initial.found.items ++ initial_values l.program l.start (cells_view l.cells)
