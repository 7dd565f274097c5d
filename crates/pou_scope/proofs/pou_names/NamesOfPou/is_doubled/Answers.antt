use Rattle.std.proofs.Common.{◌≡◌, None, option_map, ap, sym, ◌∙◌}
use Rattle.std.specs.HashMap.{get_by_text}
use Rattle.source_tree.specs.SyntaxView.{name_view}
use Rattle.pou_scope.specs.NamesView.{scope_named}
use Rattle.naming.specs.Slots.{slot_among}
use Rattle.naming.proofs.UseLemmas.{none_doubled}
use Rattle.pou_scope.proofs.pou_names.NamesOfPou.is_doubled.Goals as goal

pub returns-in-None : goal.returns-in-None
returns-in-None c =
    let names = c.args.self.now in
    let p = scope_named names in
    let q = (name_view c.args.name.now).text in
    let found = c.numbered.ensures.value ∙ ap (get_by_text names.slots) c.as_str.ensures.value ∙ names.held q in
    let is : slot_among p.has_fault p.variables q ≡ None = sym found ∙ ap (option_map (λ r. r.1)) c.in-None.is in
    c.is_fault.ensures ∙ none_doubled p.has_fault p.variables q is
