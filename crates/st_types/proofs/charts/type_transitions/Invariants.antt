use Rattle.std.proofs.Common.{◌≡◌, take, map}
use Rattle.program_tree.specs.View.{transition_view}
use Rattle.sfc_shape.specs.ShapeView.{seen_transitions}
use Rattle.sfc_shape.specs.PartsView.{parts_in}
use Rattle.typing.specs.TypedCharts.{typed_transition}
use Rattle.st_types.proofs.charts.type_transitions.Given as goal

abbrev pub invariant-loop-transition : goal.invariant-loop-transition
invariant-loop-transition g l = map transition_view l.list.items ≡ map (typed_transition (g.S.Scope.means l.scope) (parts_in l.shape)) (seen_transitions (take l.transition-index l.transitions))
