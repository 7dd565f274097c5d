use Rattle.std.proofs.Common.{◌≡◌, ◌+◌, ◌*◌, ◌++◌, drop}
use Rattle.flat_core.specs.FlatView.{flats_view}
use Rattle.flat_charts.specs.Views.{owner_view}
use Rattle.flat_form.specs.FlatCharts.{mark_list}
use Rattle.fb_inline.proofs.chart_lists.put_marks.Given as goal

-- what is there with what is left to come
abbrev pub invariant-loop-step : goal.invariant-loop-step
invariant-loop-step l = record {
  flag : l.flag ≡ l.flags + 2 * l.step-index;
  list : flats_view l.out.items ++ mark_list (owner_view l.scope.owner) l.scope.base (drop l.step-index l.steps) l.flag
      ≡ flats_view l.initial.out.items ++ mark_list (owner_view l.scope.owner) l.scope.base l.steps l.flags;
}
