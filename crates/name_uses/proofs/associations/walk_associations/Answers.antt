use Rattle.std.proofs.Common.{◌≡◌, [], ◌+◌, drop, ap, sym, ◌∙◌, arith}
use Rattle.std.proofs.lemmas.List.{drop_all}
use Rattle.source_tree.specs.SyntaxView.{step_action_view, step_actions_view}
use Rattle.naming.specs.Broken.{in_association, in_associations}
use Rattle.pou_scope.specs.NamesView.{file_in, pou_in}
use Rattle.rules.specs.Outcomes.{outcome_of, both}
use Rattle.rules.proofs.Outcomes.{before_rest, loop_done}
use Rattle.naming.proofs.Steps.{view-drop}
use Rattle.name_uses.proofs.associations.walk_associations.Goals as goal

pub loop-action-preserved : goal.loop-action-preserved
loop-action-preserved c =
    let f = file_in c.args.scope.now.names in
    let p = pou_in c.args.scope.now.names in
    let x = c.action-item.result in
    let rest = step_actions_view (drop (c.loop-action.action-index + 1) c.args.actions.now) in
    let left = view-drop step_action_view c.args.actions.now c.loop-action.action-index x (omega arith) c.action-item.is in
    let all = ap (λ ls. both c.loop-action.outcome (outcome_of (in_associations f p ls))) (sym left) ∙ c.loop-action.invariant in
    before_rest c.loop-action.outcome c.and.result _ (in_association f p (step_action_view x)) (in_associations f p rest) (c.and.ensures ∙ ap (both c.loop-action.outcome) c.judged_association.ensures) all

pub returns : goal.returns
returns c =
    let f = file_in c.args.scope.now.names in
    let p = pou_in c.args.scope.now.names in
    let xs = c.args.actions.now in
    let i = c.loop-action.action-index in
    let none : drop i xs ≡ [] = drop_all i xs (omega arith) in
    loop_done c.loop-action.outcome c.args.outcome.now (in_associations f p (step_actions_view (drop i xs))) (in_associations f p (step_actions_view xs)) c.loop-action.invariant (ap (λ ys. in_associations f p (step_actions_view ys)) none)
