use Rattle.std.proofs.Common.{◌≡◌, ℕ, ◌+◌, ◌≤◌, List, ◌++◌, map, false, ap, ◌∙◌, arith}
use Rattle.std.proofs.lemmas.Bool.{leb-true}
use Rattle.program_tree.specs.declared.typed.ChartCells.{ChartCells}
use Rattle.decl_types.specs.Bodies.{file_in}
use Rattle.decl_types.specs.ToldView.{told_view}
use Rattle.typing.specs.ChartPlaces.{charts_of, block_charts}
use Rattle.typing.specs.Places.{in_order, count_of_cells, sizes_of, variables_at}
use Rattle.st_types.specs.ToldCharts.{told_charts_of, told_room}
use Rattle.st_types.proofs.ToldLemmas.{charts_in_order}
use Rattle.st_types.proofs.ChartRoom.{room_is}
use Rattle.st_types.proofs.chart_places.charts_in.Goals as goal

pub write_charts-requires : goal.write_charts-requires
write_charts-requires c =
    let f = file_in c.args.placed.now.pous.domains in
    let vs = variables_at f c.args.number in
    let asked : told_room (sizes_of f) (map told_view c.told_at.result.now) ≡ count_of_cells f (sizes_of f) vs = ap (told_room (sizes_of f)) c.told_at.ensures ∙ room_is f (sizes_of f) vs in
    let few : 1 + count_of_cells f (sizes_of f) vs ≤ 4096 = leb-true _ _ c.requires in
    omega (arith, asked, few)

pub returns : goal.returns
returns c =
    let f = file_in c.args.placed.now.pous.domains in
    let of_block = block_charts f c.pou_count-depth.result in
    let ts = map told_view c.told_at.result.now in
    let vs = variables_at f c.args.number in
    c.in_ok-write_charts.ensures ∙ ap (λ (cs : List ChartCells). cs ++ told_charts_of (sizes_of f) of_block 1 ts) c.new-list.ensures.items
    ∙ charts_in_order f of_block 1 vs ts c.told_at.ensures ∙ ap (λ (n : ℕ). charts_of f (block_charts f n) 1 (in_order false vs)) c.pou_count-depth.ensures
