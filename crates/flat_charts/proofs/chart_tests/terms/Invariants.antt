use Rattle.std.proofs.Common.{◌≡◌, ◌++◌, drop, map}
use Rattle.plc_types.specs.declared.operator.Operator.TheVariants.{Or}
use Rattle.program_tree.specs.View.{operand_view}
use Rattle.flat_charts.specs.Views.{owner_view}
use Rattle.flat_form.specs.FlatCharts.{joining, terms}
use Rattle.flat_charts.proofs.chart_tests.terms.Given as goal

-- those so far with those that are left
abbrev pub invariant-loop-association : goal.invariant-loop-association
invariant-loop-association l =
    map operand_view l.operands.items ++ map (joining Or) (terms (owner_view l.scope.owner) l.scope.base l.steps (drop l.association-index l.associations))
    ≡ map (joining Or) (terms (owner_view l.scope.owner) l.scope.base l.steps l.associations)
