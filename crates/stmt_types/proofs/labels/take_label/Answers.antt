use Rattle.std.proofs.Common.{◌≡◌, not, ap}
use Rattle.source_tree.specs.SyntaxView.{label_view}
use Rattle.typing.specs.Labels.{judged_label}
use Rattle.rules.specs.Outcomes.{outcome_of}
use Rattle.stmt_types.proofs.SeenLemmas.{sees_label, sees_no_more}
use Rattle.stmt_types.proofs.labels.take_label.Goals as goal

pub returns-in_ok-insert : goal.returns-in_ok-insert
returns-in_ok-insert g c = λ list sees.
    let l = label_view c.args.label.now in
    let found = c.in_ok-constants.ensures in
    let told : c.judge_label-outcome.result ≡ outcome_of (judged_label (g.S.Scope.means c.args.scope.now) c.args.kind list l) =
    c.judge_label-outcome.ensures list found.judged found.range found.fit (ap not (c.overlaps-is_new.ensures list sees)) in
    (told, sees_label (g.S.Scope.means c.args.scope.now) c.args.kind list l c.in_ok-constants.constants.range c.judge_label-outcome.result c.args.seen.now c.insert.new.self found.range told c.if-outcome.true c.in_ok-insert.ensures.highs c.in_ok-insert.ensures.greatest sees)

pub returns-else-outcome : goal.returns-else-outcome
returns-else-outcome g c = λ list sees.
    let l = label_view c.args.label.now in
    let found = c.in_ok-constants.ensures in
    let told : c.judge_label-outcome.result ≡ outcome_of (judged_label (g.S.Scope.means c.args.scope.now) c.args.kind list l) =
    c.judge_label-outcome.ensures list found.judged found.range found.fit (ap not (c.overlaps-is_new.ensures list sees)) in
    (told, sees_no_more (g.S.Scope.means c.args.scope.now) c.args.kind list l c.judge_label-outcome.result c.args.seen.now told c.if-outcome.false sees)
