use Rattle.std.proofs.Common.{◌≡◌, ◌+◌, drop}
use Rattle.source_tree.specs.SyntaxView.{names_view}
use Rattle.program_tree.specs.View.{cells_view}
use Rattle.typing.specs.Programs.{joined, own_type, cell_among}
use Rattle.clause_types.proofs.sides.search_cells.Given as goal

abbrev pub invariant-loop-index : goal.invariant-loop-index
invariant-loop-index l = cell_among own_type (joined (names_view l.members)) l.start (cells_view l.cells) ≡ cell_among own_type (joined (names_view l.members)) (l.start + l.index) (cells_view (drop l.index l.cells))
