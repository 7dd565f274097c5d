use Rattle.std.proofs.Common.{◌≡◌, [], ◌+◌, drop, ap, sym, ◌∙◌, arith}
use Rattle.std.proofs.lemmas.List.{drop_all}
use Rattle.source_tree.specs.SyntaxView.{label_view, labels_view}
use Rattle.naming.specs.Broken.{in_label, in_labels}
use Rattle.pou_scope.specs.NamesView.{file_in, pou_in}
use Rattle.rules.specs.Outcomes.{outcome_of, both}
use Rattle.rules.proofs.Outcomes.{before_rest, loop_done}
use Rattle.naming.proofs.Steps.{view-drop}
use Rattle.name_uses.proofs.walk.walk_labels.Goals as goal

pub loop-label-preserved : goal.loop-label-preserved
loop-label-preserved c =
    let f = file_in c.args.scope.now.names in
    let p = pou_in c.args.scope.now.names in
    let x = c.label-item.result in
    let rest = labels_view (drop (c.loop-label.label-index + 1) c.args.labels.now) in
    let left = view-drop label_view c.args.labels.now c.loop-label.label-index x (omega arith) c.label-item.is in
    let all = ap (λ ls. both c.loop-label.outcome (outcome_of (in_labels f p ls))) (sym left) ∙ c.loop-label.invariant in
    before_rest c.loop-label.outcome c.and.result _ (in_label f p (label_view x)) (in_labels f p rest) (c.and.ensures ∙ ap (both c.loop-label.outcome) c.judged_label.ensures) all

pub returns : goal.returns
returns c =
    let f = file_in c.args.scope.now.names in
    let p = pou_in c.args.scope.now.names in
    let xs = c.args.labels.now in
    let i = c.loop-label.label-index in
    let none : drop i xs ≡ [] = drop_all i xs (omega arith) in
    loop_done c.loop-label.outcome c.args.outcome.now (in_labels f p (labels_view (drop i xs))) (in_labels f p (labels_view xs)) c.loop-label.invariant (ap (λ ys. in_labels f p (labels_view ys)) none)
