use Rattle.std.proofs.Common.{◌≡◌, ◌++◌, length, drop}
use Rattle.program_tree.specs.View.{cells_view}
use Rattle.scan_model.specs.Pairs.{candidates_view}
use Rattle.clause_types.specs.PairedTypes.{paired_in}
use Rattle.scan_model.specs.Candidates.{same_cells}
use Rattle.candidates.specs.PairView.{new_of}
use Rattle.candidates.proofs.same.add_same.Given as goal

abbrev pub invariant-loop-place : goal.invariant-loop-place
invariant-loop-place l =
    candidates_view l.found.items ++ same_cells (paired_in l.pair.scope.types) l.place (length l.old) (new_of l.pair).cells (cells_view (drop l.place l.old)) ≡ candidates_view l.initial.found.items ++ same_cells (paired_in l.pair.scope.types) 0 (length l.old) (new_of l.pair).cells (cells_view l.old)
