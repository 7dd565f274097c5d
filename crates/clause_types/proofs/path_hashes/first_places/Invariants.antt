use Rattle.std.proofs.Common.{drop}
use Rattle.program_tree.specs.View.{cells_view}
use Rattle.clause_types.specs.PathHashes.{FindsHashes}
use Rattle.clause_types.proofs.path_hashes.first_places.Given as goal

abbrev pub invariant-loop-index : goal.invariant-loop-index
invariant-loop-index l = FindsHashes l.found l.index (cells_view (drop l.index l.cells))
