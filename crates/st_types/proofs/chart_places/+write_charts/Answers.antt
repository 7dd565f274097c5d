use Rattle.std.proofs.Common.{◌≡◌, ◌-◌, List, ◌++◌, map, Some, sym, ap, ◌∙◌, arith}
use Rattle.program_tree.specs.declared.typed.ChartCells.{ChartCells}
use Rattle.decl_types.specs.Bodies.{file_in}
use Rattle.decl_types.specs.ToldView.{told_view}
use Rattle.typing.specs.ChartPlaces.{block_charts}
use Rattle.typing.specs.Places.{size_among, sizes_of, count_of_cells, variables_at}
use Rattle.st_types.specs.ToldCharts.{told_charts_of, told_block_cells, told_room}
use Rattle.st_types.proofs.ToldLemmas.{on_done, charts_in_order, block_charts-below}
use Rattle.st_types.proofs.ChartRoom.{block_fits, room_is}
use Rattle.st_types.proofs.chart_places.+write_charts.Goals as goal

pub write_block-write_charts-requires : goal.write_block-write_charts-requires
write_block-write_charts-requires t c =
    let f = file_in c.args.placed.now.pous.domains in
    let asked : told_room (sizes_of f) (map told_view c.told_at.result.now) ≡ count_of_cells f (sizes_of f) (variables_at f c.args.block) =
    ap (told_room (sizes_of f)) c.told_at.ensures ∙ room_is f (sizes_of f) (variables_at f c.args.block) in
    (omega arith, omega (arith, asked, c.requires))

pub write_variable-write_block-requires : goal.write_variable-write_block-requires
write_variable-write_block-requires t c =
    let f = file_in c.args.placed.now.pous.domains in
    let b = c.in-Some.block in
    let asked : told_block_cells (sizes_of f) c.args.told.now.block ≡ size_among (sizes_of f) (Some b) = ap (told_block_cells (sizes_of f)) c.in-Some.is in
    (omega arith, block_fits f c.args.placed.now.pous.domains.types.names.now.unbroken c.args.place b (sym c.has_no_cells.ensures ∙ c.if-has_no_cells.false) (omega (arith, asked, c.requires)))

pub write_block-returns : goal.write_block-returns
write_block-returns t c =
    let f = file_in c.args.placed.now.pous.domains in
    let of_block = block_charts f (c.args.depth - 1) in
    let ts = map told_view c.told_at.result.now in
    let old = c.args.list.now.items in
    let new = c.write_charts.new.list.items in
    on_done c.write_charts.result (new ≡ old ++ told_charts_of (sizes_of f) of_block c.args.place ts) (new ≡ old ++ block_charts f c.args.depth c.args.place c.args.block)
    (λ is. is ∙ ap (λ (cs : List ChartCells). old ++ cs) (charts_in_order f of_block c.args.place (variables_at f c.args.block) ts c.told_at.ensures
    ∙ block_charts-below f c.args.depth c.args.place c.args.block c.if-depth-eq0.false))
    c.write_charts.ensures
