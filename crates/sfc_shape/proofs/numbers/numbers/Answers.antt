use Rattle.std.proofs.Common.{◌≡◌, ◌∙◌, ap, sym, take, length, arith, is_none, length-take-le}
use Rattle.std.proofs.lemmas.List.{length-map}
use Rattle.std.proofs.lemmas.Grind.{common_steps}
use Rattle.std.specs.String.{string_bytes}
use Rattle.std.specs.HashMap.{get_by_text}
use Rattle.source_tree.specs.SyntaxView.{chart_step_view}
use Rattle.sfc_shape.specs.ShapeView.{seen_steps}
use Rattle.sfc_shape.proofs.Steps.{view-take}
use Rattle.sfc_shape.proofs.NumberSteps.{is_none-found, known-push, unknown-push}
use Rattle.sfc_shape.proofs.numbers.numbers.Goals as goal
use Rattle.sfc_shape.proofs.numbers.numbers.Goals.{then-is_none+in_ok-clone+in_ok-insert, else-is_none}

pub loop-number-preserved : goal.loop-number-preserved
loop-number-preserved c = λ text.
    let i = c.loop-number.number in
    let steps = c.args.steps.now in
    let x = c.index-steps-number.result in
    let more = view-take (λ s. chart_step_view s.now) steps i x (omega arith) c.index-steps-number.is in
    let before = seen_steps (take i steps) in
    let number : length before ≡ i = length-map (take i steps) (λ s. chart_step_view s.now) ∙ length-take-le i steps (omega arith) in
    let known = c.number_at.ensures ∙ ap (get_by_text c.loop-number.numbers) c.as_str.ensures.value ∙ c.loop-number.invariant (string_bytes x.now.name.text) in
    let held = c.loop-number.invariant in
    elim c.if-is_none.branch [
      | then-is_none+in_ok-clone+in_ok-insert w ↦
          let key : string_bytes w.in_ok-clone.field-0 ≡ string_bytes x.now.name.text = grind (arith, common_steps) in
          let none = sym (ap is_none known) ∙ is_none-found c.number_at.result c.is_none.result c.is_none.ensures ∙ w.if-is_none.true in
          rw (w.numbers-is, more) (unknown-push c.loop-number.numbers w.insert.new.self w.in_ok-clone.field-0 before (chart_step_view x.now) i held w.in_ok-insert.ensures.updates key number none text)
      | else-is_none w ↦
          let none = sym (ap is_none known) ∙ is_none-found c.number_at.result c.is_none.result c.is_none.ensures ∙ w.if-is_none.false in
          rw (w.numbers-is, more) (held text ∙ known-push before (chart_step_view x.now) text none)
    ]
