use Rattle.std.proofs.Common.{◌≡◌, ◌+◌, ◌++◌, drop, length}
use Rattle.flat_core.specs.FlatView.{flats_view}
use Rattle.flat_form.specs.FlatCharts.{flags_of, clear_flags}
use Rattle.fb_inline.proofs.chart_lists.put_flags.Given as goal

-- what is there with what is left to come
abbrev pub invariant-loop : goal.invariant-loop
invariant-loop l = record {
  list : flats_view l.out.items ++ clear_flags (drop l.index l.steps) (l.cells + length l.scratch.items) ≡ flats_view l.initial.out.items ++ clear_flags l.steps (l.cells + length l.initial.scratch.items);
  scratch : l.scratch.items ++ flags_of (drop l.index l.steps) ≡ l.initial.scratch.items ++ flags_of l.steps;
}
