use Rattle.std.proofs.Common.{◌≡◌, Some, None, ap, sym, ◌∙◌}
use Rattle.std.specs.HashMap.{get_by_text}
use Rattle.source_tree.specs.SyntaxView.{name_view}
use Rattle.pou_scope.specs.SlottedView.{scope_slotted}
use Rattle.naming.specs.Slots.{slot_among}
use Rattle.naming.proofs.UseLemmas.{slot_says, none_doubled}
use Rattle.pou_scope.proofs.slotted.Slotted.is_doubled.Goals as goal

pub returns-in-Some : goal.returns-in-Some
returns-in-Some c =
    let slotted = c.args.self.now in
    let p = scope_slotted slotted in
    let q = (name_view c.args.name.now).text in
    let is : slot_among p.has_fault p.variables q ≡ Some c.in-Some.slot = sym (c.slot_at.ensures ∙ ap (get_by_text slotted.slots.now) c.as_str.ensures.value ∙ slotted.held q) ∙ c.in-Some.is in
    (slot_says p.has_fault p.variables q c.in-Some.slot is).1.doubled

pub returns-in-None : goal.returns-in-None
returns-in-None c =
    let slotted = c.args.self.now in
    let p = scope_slotted slotted in
    let q = (name_view c.args.name.now).text in
    let is : slot_among p.has_fault p.variables q ≡ None = sym (c.slot_at.ensures ∙ ap (get_by_text slotted.slots.now) c.as_str.ensures.value ∙ slotted.held q) ∙ c.in-None.is in
    c.is_fault.ensures ∙ none_doubled p.has_fault p.variables q is
