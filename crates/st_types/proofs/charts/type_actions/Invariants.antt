use Rattle.std.proofs.Common.{◌≡◌, take, map}
use Rattle.program_tree.specs.View.{action_view}
use Rattle.sfc_shape.specs.ShapeView.{seen_actions}
use Rattle.sfc_shape.specs.PartsView.{parts_in}
use Rattle.typing.specs.TypedCharts.{typed_action}
use Rattle.st_types.proofs.charts.type_actions.Given as goal

abbrev pub invariant-loop-number : goal.invariant-loop-number
invariant-loop-number g l = map action_view l.list.items ≡ map (typed_action (g.S.Scope.means l.scope) (parts_in l.shape)) (seen_actions (take l.number l.actions))
