use Rattle.std.proofs.Common.{◌≡◌, ◌++◌, drop}
use Rattle.program_tree.specs.View.{actions_view}
use Rattle.flat_core.specs.FlatView.{flats_view}
use Rattle.flat_charts.specs.Views.{owner_view}
use Rattle.flat_form.specs.FlatCharts.{latch_list}
use Rattle.fb_inline.proofs.chart_lists.put_latches.Given as goal

-- what is there with what is left to come
abbrev pub invariant-loop-action : goal.invariant-loop-action
invariant-loop-action l =
    flats_view l.out.items ++ latch_list (owner_view l.scope.owner) l.scope.base l.steps (actions_view (drop l.action-index l.actions))
    ≡ flats_view l.initial.out.items ++ latch_list (owner_view l.scope.owner) l.scope.base l.steps (actions_view l.actions)
