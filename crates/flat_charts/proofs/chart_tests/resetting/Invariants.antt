use Rattle.std.proofs.Common.{◌≡◌, ◌++◌, drop}
use Rattle.meaning.specs.Charts.{is_reset}
use Rattle.flat_form.specs.FlatCharts.{steps_that}
use Rattle.flat_charts.proofs.chart_tests.resetting.Given as goal

-- those so far with those that are left
abbrev pub invariant-loop-association : goal.invariant-loop-association
invariant-loop-association l = l.list.items ++ steps_that is_reset (drop l.association-index l.associations) ≡ steps_that is_reset l.associations
