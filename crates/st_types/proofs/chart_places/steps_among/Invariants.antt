use Rattle.std.proofs.Common.{◌≡◌, ◌+◌, ◌≤◌, map, drop}
use Rattle.decl_types.specs.ToldView.{told_view}
use Rattle.st_types.specs.ToldCharts.{told_steps}
use Rattle.st_types.proofs.chart_places.steps_among.Given as goal

abbrev pub invariant-loop-told : goal.invariant-loop-told
invariant-loop-told l = (l.steps ≤ l.told-index) × (l.steps + told_steps (map told_view (drop l.told-index l.variables)) ≡ told_steps (map told_view l.variables))
