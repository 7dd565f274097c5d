use Rattle.std.proofs.Common.{◌≡◌, ◌-◌, List, ◌++◌, map, true, false, ap, ◌∙◌}
use Rattle.std.specs.Prelude.{option_map}
use Rattle.program_tree.specs.Tree.{CellData}
use Rattle.program_tree.specs.View.{cells_view}
use Rattle.decl_types.specs.Bodies.{file_in}
use Rattle.decl_types.specs.ToldView.{told_view}
use Rattle.typing.specs.Places.{sizes_of, variables_at}
use Rattle.typing.specs.TypedPrograms.{block_cells}
use Rattle.st_types.specs.ToldCells.{told_cells_of}
use Rattle.st_types.proofs.ToldLemmas.{on_done, cells_in_order, block_cells-below}
use Rattle.st_types.proofs.cells.+write_cells.Goals as goal

pub write_block-returns : goal.write_block-returns
write_block-returns t c =
    let f = file_in c.args.placed.now.pous.domains in
    let before = option_map (λ b. b.now) c.args.before in
    let of_block = block_cells f (c.args.depth - 1) in
    let ts = map told_view c.told_at-variables.result.now in
    let old = cells_view c.args.list.now.items in
    let more = cells_view c.write_variables.new.list.items in
    let new = cells_view c.write_variables-2.new.list.items in
    on_done c.write_variables-2.result (new ≡ more ++ told_cells_of (sizes_of f) of_block (record { of_function = false; in_front = false; inside = true }) before ts) (new ≡ old ++ block_cells f c.args.depth before c.args.block)
    (λ is. cells_in_order f of_block before false true (variables_at f c.args.block) ts old more new c.told_at-variables.ensures c.in_ok-write_variables.ensures is
    ∙ ap (λ (cs : List CellData). old ++ cs) (block_cells-below f c.args.depth before c.args.block c.if-depth-eq0.false))
    c.write_variables-2.ensures
