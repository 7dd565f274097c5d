use Rattle.std.proofs.Common.{◌≡◌, ◌+◌, List, [], length, take, drop, ap, sym, ◌∙◌, arith, length-take-le}
use Rattle.std.proofs.lemmas.List.{length-map}
use Rattle.std.proofs.lemmas.Grind.{common_steps}
use Rattle.std.specs.String.{string_bytes}
use Rattle.std.specs.HashMap.{get_by_text}
use Rattle.naming.specs.declared.variable.Declared.{Declared}
use Rattle.naming.specs.Broken.{variables_twice}
use Rattle.rules.specs.Outcomes.{outcome_of, both}
use Rattle.naming.specs.ScopeView.{variable_view, variables_view}
use Rattle.rules.proofs.Outcomes.{both_ok}
use Rattle.naming.proofs.Steps.{view-take, view-drop}
use Rattle.naming.proofs.SlotSteps.{held_push, twice_push}
use Rattle.pou_scope.proofs.slots.slots.Goals as goal

pub loop-place-preserved : goal.loop-place-preserved
loop-place-preserved c =
    let x = c.index-variables-place.result in
    let i = c.loop-place.place in
    let more = view-take variable_view c.args.variables.now i x (omega arith) c.index-variables-place.is in
    let left = view-drop variable_view c.args.variables.now i x (omega arith) c.index-variables-place.is in
    let key : string_bytes c.in_ok-clone.field-0 ≡ string_bytes x.name.now.text = grind (arith, common_steps) in
    let known = c.slot_at-known.ensures ∙ ap (get_by_text c.loop-place.slots) c.as_str.ensures.value in
    let number : i + 1 ≡ length (variables_view (take i c.args.variables.now)) + 1 = ap (λ n. n + 1) (sym (length-map (take i c.args.variables.now) variable_view ∙ length-take-le i c.args.variables.now (omega arith))) in
    let before = variables_view (take i c.args.variables.now) in
    let rest = variables_view (drop (i + 1) c.args.variables.now) in
    let held = c.loop-place.invariant.held in
    record {
      held = rw more (held_push c.args.has_fault c.loop-place.slots c.insert.new.self c.in_ok-clone.field-0 before (variable_view x) c.entered-slot.result c.slot_at-known.result (i + 1) held c.in_ok-insert.ensures.updates key known number c.entered-slot.ensures);
      once = rw more (twice_push c.args.has_fault c.loop-place.outcome c.and-outcome.result c.declared_twice.result before rest (variable_view x) c.slot_at-known.result (known ∙ held (string_bytes x.name.now.text)) c.declared_twice.ensures c.and-outcome.ensures) ∙ rw left at c.loop-place.invariant.once;
    }

pub returns-clause-once : goal.returns-clause-once
returns-clause-once c =
    let vs = c.args.variables.now in
    let i = c.loop-place.place in
    let none : drop i vs ≡ [] = grind (arith, common_steps) in
    sym (both_ok c.loop-place.outcome)
    ∙ ap (λ (rest : List Declared). both c.loop-place.outcome (outcome_of (variables_twice c.args.has_fault (variables_view (take i vs)) (variables_view rest)))) (sym none)
    ∙ c.loop-place.invariant.once
