use Rattle.std.proofs.Common.{◌≡◌, drop}
use Rattle.program_tree.specs.View.{cells_view}
use Rattle.indexmap.specs.IndexSet.{contains_text}
use Rattle.relation_file.specs.Inputs.{all_listed}
use Rattle.relation_file.proofs.inputs.all_listed.Given as goal

abbrev pub invariant-loop-cell : goal.invariant-loop-cell
invariant-loop-cell l = all_listed (contains_text l.names) (cells_view (drop l.cell-index l.cells)) ≡ all_listed (contains_text l.names) (cells_view l.cells)
