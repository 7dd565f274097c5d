use Rattle.std.proofs.Common.{◌+◌, drop, arith}
use Rattle.program_tree.specs.View.{cell_view, cells_view}
use Rattle.naming.proofs.Steps.{view-drop}
use Rattle.indexmap.specs.IndexSet.{contains_text}
use Rattle.relation_file.specs.Inputs.{is_listed}
use Rattle.relation_file.proofs.LineLemmas.{all_failed, all_left}
use Rattle.relation_file.proofs.inputs.all_listed.Goals as goal

pub returns-then-not-is_listed : goal.returns-then-not-is_listed
returns-then-not-is_listed c =
    let i = c.loop-cell.cell-index in
    let x = c.cell-item.result in
    let left = view-drop cell_view c.args.cells.now i x (omega arith) c.cell-item.is in
    all_failed (is_listed (contains_text c.args.names.now)) (cell_view x) (cells_view (drop i c.args.cells.now)) (cells_view (drop (i + 1) c.args.cells.now)) (cells_view c.args.cells.now) c.is_listed.result left c.loop-cell.invariant c.is_listed.ensures c.if-not-is_listed.true

pub loop-cell-preserved : goal.loop-cell-preserved
loop-cell-preserved c =
    let i = c.loop-cell.cell-index in
    let x = c.cell-item.result in
    let left = view-drop cell_view c.args.cells.now i x (omega arith) c.cell-item.is in
    all_left (is_listed (contains_text c.args.names.now)) (cell_view x) (cells_view (drop i c.args.cells.now)) (cells_view (drop (i + 1) c.args.cells.now)) (cells_view c.args.cells.now) c.is_listed.result left c.loop-cell.invariant c.is_listed.ensures c.if-not-is_listed.false
