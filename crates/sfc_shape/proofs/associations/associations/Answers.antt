use Rattle.std.proofs.Common.{◌≡◌, ◌++◌, ◌∙◌, ap, take, length, arith, length-take-le}
use Rattle.std.proofs.lemmas.List.{length-map, take_all}
use Rattle.source_tree.specs.SyntaxView.{chart_step_view, step_actions_view}
use Rattle.sfc_shape.specs.Shapes.{associated, associated_from}
use Rattle.sfc_shape.specs.ShapeView.{seen_steps, listed}
use Rattle.sfc_shape.proofs.Steps.{view-take}
use Rattle.sfc_shape.proofs.AssociationSteps.{associated_from-push}
use Rattle.sfc_shape.proofs.associations.associations.Goals as goal

pub loop-number-preserved : goal.loop-number-preserved
loop-number-preserved c = λ text.
    let i = c.loop-number.number in
    let steps = c.args.steps.now in
    let x = c.index-steps-number.result in
    let more = view-take (λ s. chart_step_view s.now) steps i x (omega arith) c.index-steps-number.is in
    let before = seen_steps (take i steps) in
    let number : length before ≡ i = length-map (take i steps) (λ s. chart_step_view s.now) ∙ length-take-le i steps (omega arith) in
    let now = c.in_ok-associate_step.ensures text ∙ ap (λ l. listed c.loop-number.associations text ++ associated text i (step_actions_view l)) c.deref.ensures.value in
    rw more (associated_from-push text before (chart_step_view x.now) i _ _ number (c.loop-number.invariant text) now)

pub returns : goal.returns
returns c = λ text.
    let steps = c.args.steps.now in
    let all : take c.loop-number.number steps ≡ steps = take_all c.loop-number.number steps (omega (arith, c.loop-number-test.false)) in
    c.loop-number.invariant text ∙ ap (λ list. associated_from text 0 (seen_steps list)) all
