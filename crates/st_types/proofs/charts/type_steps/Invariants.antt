use Rattle.std.proofs.Common.{◌≡◌, take, map}
use Rattle.sfc_shape.specs.ShapeView.{seen_steps}
use Rattle.typing.specs.TypedCharts.{step_cells}
use Rattle.st_types.proofs.charts.type_steps.Given as goal

abbrev pub invariant-loop-step : goal.invariant-loop-step
invariant-loop-step g l = l.list.items ≡ map (step_cells (g.S.Scope.means l.scope)) (seen_steps (take l.step-index l.steps))
