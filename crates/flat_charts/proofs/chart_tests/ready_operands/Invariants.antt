use Rattle.std.proofs.Common.{◌≡◌, map, take}
use Rattle.plc_types.specs.declared.operator.Operator.TheVariants.{And}
use Rattle.program_tree.specs.View.{operand_view}
use Rattle.flat_charts.specs.Views.{owner_view}
use Rattle.flat_form.specs.FlatCharts.{joining, ready_term}
use Rattle.flat_charts.proofs.chart_tests.ready_operands.Given as goal

abbrev pub invariant-loop-step : goal.invariant-loop-step
invariant-loop-step l = map operand_view l.operands.items ≡ map (λ i. joining And (ready_term (owner_view l.scope.owner) l.scope.base l.steps l.flags i)) (take l.step-index l.from)
