use Rattle.std.proofs.Common.{◌≡◌, ◌++◌, drop, map}
use Rattle.flat_core.specs.FlatView.{flats_view}
use Rattle.flat_form.specs.FlatCharts.{entered_set}
use Rattle.fb_inline.proofs.chart_lists.put_entered.Given as goal

-- what is there with what is left to come
abbrev pub invariant-loop-step : goal.invariant-loop-step
invariant-loop-step l = flats_view l.out.items ++ map (entered_set l.flags) (drop l.step-index l.list) ≡ flats_view l.initial.out.items ++ map (entered_set l.flags) l.list
