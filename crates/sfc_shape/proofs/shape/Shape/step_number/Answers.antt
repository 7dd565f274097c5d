use Rattle.std.proofs.Common.{rules, ◌≡◌, ◌∙◌, ℕ, Option, length, unwrap_or, ap, sym}
use Rattle.std.proofs.lemmas.List.{length-map}
use Rattle.std.specs.String.{string_bytes}
use Rattle.std.specs.HashMap.{get_by_text}
use Rattle.source_tree.specs.SyntaxView.{chart_step_view}
use Rattle.sfc_shape.specs.Shapes.{steps_of}
use Rattle.sfc_shape.specs.PartsView.{parts_in}
use Rattle.sfc_shape.proofs.NumberSteps.{number_from}
use Rattle.sfc_shape.proofs.shape.Shape.step_number.Goals as goal

pub returns-in-Some : goal.returns-in-Some
returns-in-Some c =
    let shape = c.args.self.now in
    let text = string_bytes c.args.name.now.text in
    let found = sym (c.value_by.ensures ∙ ap (get_by_text shape.numbers) c.as_str.ensures.value ∙ shape.numbered text) in
    sym (number_from (steps_of (parts_in shape)) text _ found ∙ ap (λ (o : Option ℕ). unwrap_or o (length (steps_of (parts_in shape)))) c.in-Some.is)

pub returns-in-None : goal.returns-in-None
returns-in-None c =
    let shape = c.args.self.now in
    let text = string_bytes c.args.name.now.text in
    let found = sym (c.value_by.ensures ∙ ap (get_by_text shape.numbers) c.as_str.ensures.value ∙ shape.numbered text) in
    let all : c.len.result ≡ length shape.steps.items = search rules in
    let count = sym (length-map shape.steps.items (λ s. chart_step_view s.now)) ∙ ap length shape.has_steps in
    all ∙ count ∙ sym (number_from (steps_of (parts_in shape)) text _ found ∙ ap (λ (o : Option ℕ). unwrap_or o (length (steps_of (parts_in shape)))) c.in-None.is)
