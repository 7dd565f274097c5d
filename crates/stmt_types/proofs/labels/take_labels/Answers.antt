use Rattle.std.proofs.Common.{◌≡◌, ◌+◌, ◌∷◌, arith, drop}
use Rattle.std.proofs.lemmas.Grind.{common_steps}
use Rattle.source_tree.specs.SyntaxView.{label_view, labels_view}
use Rattle.typing.specs.Labels.{seen_with}
use Rattle.typing_laws.proofs.Labelling.{label_step}
use Rattle.stmt_types.proofs.labels.take_labels.Goals as goal

pub loop-label-preserved : goal.loop-label-preserved
loop-label-preserved g c = λ list keeps.
    let known = c.loop-label.invariant list keeps in
    let now = known.0 in
    let l = label_view c.label-item.result in
    let rest = labels_view (drop (c.loop-label.label-index + 1) c.args.labels.now) in
    let split : labels_view (drop c.loop-label.label-index c.args.labels.now) ≡ l ∷ rest = grind (arith, common_steps) in
    let step = c.in_ok-take_label.ensures now known.1 in
    let both = label_step (g.S.Scope.means c.args.scope.now) c.args.kind now c.loop-label.judged c.in_ok-take_label.field-0 c.and-judged.result _ _ l rest _ split step.0 c.and-judged.ensures known.2 known.3 in
    (seen_with (g.S.Scope.means c.args.scope.now) c.args.kind now l, step.1, both.0, both.1)
