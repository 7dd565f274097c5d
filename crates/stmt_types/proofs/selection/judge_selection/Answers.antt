use Rattle.std.proofs.Common.{[], ap, ◌∙◌}
use Rattle.std.proofs.lemmas.Bool.{not-true, not-false}
use Rattle.source_tree.specs.SyntaxView.{tree_view, entries_view}
use Rattle.typing.specs.Labels.{judged_labels}
use Rattle.rules.specs.Outcomes.{outcome_of}
use Rattle.typing.specs.Outcomes.{all_labels}
use Rattle.typing_laws.proofs.Judging.{outcome_of-selection, outcome_of-unselected}
use Rattle.stmt_types.proofs.selection.judge_selection.Goals as goal

pub returns-then-not-judged : goal.returns-then-not-judged
returns-then-not-judged g c =
    outcome_of-unselected (g.S.Scope.means c.args.scope.now) (tree_view c.args.selector.now) (entries_view c.args.entries.now) c.in_ok-judged.judged.outcome c.in_ok-judged.ensures.outcome (not-true c.in_ok-judged.judged.outcome.whole c.if-not-judged.true)

pub returns : goal.returns
returns g c =
    outcome_of-selection (g.S.Scope.means c.args.scope.now) (tree_view c.args.selector.now) (entries_view c.args.entries.now) c.in_ok-judged.judged.outcome c.in_ok-labels.labels c.and.result c.in_ok-judged.ensures.outcome (not-false c.in_ok-judged.judged.outcome.whole c.if-not-judged.false)
    (c.in_ok-labels.ensures ∙ ap (λ t. outcome_of (judged_labels (g.S.Scope.means c.args.scope.now) t [] (all_labels (entries_view c.args.entries.now)))) c.in_ok-judged.ensures.kind) c.and.ensures
