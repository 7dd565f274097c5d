use Rattle.std.proofs.Common.{◌≡◌, ◌<◌, ◌+◌, ◌*◌, ◌^◌, ◌++◌, map, drop}
use Rattle.decl_types.specs.Bodies.{file_in}
use Rattle.decl_types.specs.ToldView.{told_view}
use Rattle.typing.specs.ChartPlaces.{block_charts}
use Rattle.typing.specs.Places.{sizes_of}
use Rattle.st_types.specs.ToldCharts.{told_charts_of, told_room}
use Rattle.st_types.proofs.chart_places.+write_charts.Given as goal

abbrev pub invariant-write_charts-loop-index : goal.invariant-write_charts-loop-index
invariant-write_charts-loop-index l = record {
  room : l.place + told_room (sizes_of (file_in l.placed.pous.domains)) (map told_view (drop l.index l.variables)) < 2 ^ 64;
  made : l.list.items ++ told_charts_of (sizes_of (file_in l.placed.pous.domains)) (block_charts (file_in l.placed.pous.domains) l.depth) l.place (map told_view (drop l.index l.variables))
      ≡ l.initial.list.items ++ told_charts_of (sizes_of (file_in l.placed.pous.domains)) (block_charts (file_in l.placed.pous.domains) l.depth) l.initial.place (map told_view l.variables);
}

abbrev pub decreases-write_block : goal.decreases-write_block
decreases-write_block l = 3 * l.depth

abbrev pub decreases-write_charts : goal.decreases-write_charts
decreases-write_charts l = 3 * l.depth + 2

abbrev pub decreases-write_variable : goal.decreases-write_variable
decreases-write_variable l = 3 * l.depth + 1
