use Rattle.std.proofs.Common.{◌≡◌, drop}
use Rattle.program_tree.specs.View.{cells_view}
use Rattle.typing.specs.Programs.{own_type, cell_among}
use Rattle.clause_types.proofs.sides.search_path.Given as goal

abbrev pub invariant-loop-index : goal.invariant-loop-index
invariant-loop-index l = cell_among own_type l.path l.first (cells_view (drop l.first l.cells)) ≡ cell_among own_type l.path l.index (cells_view (drop l.index l.cells))
