use Rattle.std.proofs.Common.{option_map, ap, ◌∙◌}
use Rattle.source_tree.specs.SyntaxView.{name_view, file_view}
use Rattle.naming.specs.declared.slot.Slot.{Slot}
use Rattle.naming.specs.FileScope.{pou_at}
use Rattle.file_bindings.proofs.BindingLemmas.{bound_slot}
use Rattle.file_bindings.proofs.bound.Resolved.bound.Goals as goal

pub returns : goal.returns
returns c = c.bound_by.ensures ∙ ap (option_map (λ (s : Slot). s.number)) c.slot_of_use.ensures ∙ bound_slot (name_view c.args.name.now).text (pou_at (file_view c.args.self.now.file.now) c.args.pou)
