use Rattle.std.proofs.Common.{◌≡◌, ap, ◌∙◌, subst, IfOk}
use Rattle.plc_types.specs.declared.operator.Operator.TheVariants.{Or}
use Rattle.program_tree.specs.Tree.{Operands}
use Rattle.program_tree.specs.View.{expr_view, operands_of}
use Rattle.flat_charts.specs.Views.{owner_view}
use Rattle.flat_form.specs.FlatCharts.{joined_to, terms}
use Rattle.flat_charts.proofs.JoinLemmas.{operands_by-all}
use Rattle.flat_charts.proofs.chart_tests.or_terms.Goals as goal

pub returns : goal.returns
returns c =
    let scope = c.args.scope.now in
    subst (λ (os : Operands). IfOk c.joined_to.result (λ t. expr_view t ≡ joined_to (expr_view c.args.first) os)) (ap operands_of c.in_ok-others.ensures ∙ operands_by-all Or (terms (owner_view scope.owner) scope.base c.args.steps.now c.args.associations.now)) c.joined_to.ensures
