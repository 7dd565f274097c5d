use Rattle.std.proofs.Common.{is_some, ap, ◌∙◌}
use Rattle.std.specs.HashMap.{get_by_text}
use Rattle.source_tree.specs.SyntaxView.{name_view}
use Rattle.pou_scope.specs.SlottedView.{scope_slotted}
use Rattle.naming.proofs.UseLemmas.{slot-variable}
use Rattle.pou_scope.proofs.slotted.Slotted.has_variable.Goals as goal

pub returns : goal.returns
returns c =
    let slotted = c.args.self.now in
    let p = scope_slotted slotted in
    let q = (name_view c.args.name.now).text in
    c.is_some.ensures ∙ ap is_some (c.slot_at.ensures ∙ ap (get_by_text slotted.slots.now) c.as_str.ensures.value ∙ slotted.held q) ∙ slot-variable p.has_fault p.variables q
