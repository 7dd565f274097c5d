use Rattle.std.proofs.Common.{◌∙◌, ap, not, rules}
use Rattle.std.specs.Prelude.{int_le}
use Rattle.plc_types.specs.declared.range.Range.{Range}
use Rattle.source_tree.specs.SyntaxView.{label_view}
use Rattle.typing.specs.Labels.{overlaps}
use Rattle.typing_laws.proofs.Labelling.{outcome_of-label}
use Rattle.stmt_types.proofs.labels.judge_label.Goals as goal

pub returns : goal.returns
returns g c = λ seen is_judged is_range is_fit is_new.
    outcome_of-label (g.S.Scope.means c.args.scope.now) c.args.kind seen (label_view c.args.label.now) c.args.constants.fit c.is_in_order.result c.args.is_new c.args.constants.judged c.require.result c.require-2.result c.require-3.result
    is_fit (c.is_in_order.ensures ∙ ap (λ (r : Range). int_le r.low r.high) is_range) (is_new ∙ ap (λ (r : Range). not (overlaps seen r)) is_range)
    is_judged (search rules) (search rules) (search rules)
