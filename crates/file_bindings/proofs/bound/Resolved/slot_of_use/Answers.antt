use Rattle.std.proofs.Common.{◌≡◌, List, Some, None, length, refl, ap, sym, ◌∙◌}
use Rattle.std.specs.HashMap.{get_by_text}
use Rattle.std.specs.List.{slice_get}
use Rattle.std.specs.Option.{option_and_then}
use Rattle.std.proofs.lemmas.Option.{slice_get_read, slice_get_past}
use Rattle.source_tree.specs.SyntaxView.{name_view}
use Rattle.pou_scope.specs.declared.pou_names.NamesOfPou.{NamesOfPou}
use Rattle.file_bindings.proofs.bound.Resolved.slot_of_use.Goals as goal

pub returns-in-Some : goal.returns-in-Some
returns-in-Some c =
    let r = c.args.self.now in
    let all = c.as_slice.result.now in
    let q = (name_view c.args.name.now).text in
    let lookup = c.in-Some.ensures.lookup in
    let there : slice_get all c.args.pou ≡ Some c.in-Some.names.now = slice_get_read all (length all) c.args.pou c.in-Some.names.now refl lookup.3.0 lookup.1 in
    c.value_by.ensures ∙ ap (get_by_text c.in-Some.names.now.slots) c.as_str.ensures.value ∙ ap (option_and_then (λ (n : NamesOfPou). get_by_text n.slots q)) (sym there) ∙ ap (λ (xs : List NamesOfPou). option_and_then (λ (n : NamesOfPou). get_by_text n.slots q) (slice_get xs c.args.pou)) c.as_slice.ensures.value ∙ r.bound.slots c.args.pou q

pub returns-in-None : goal.returns-in-None
returns-in-None c =
    let r = c.args.self.now in
    let all = c.as_slice.result.now in
    let q = (name_view c.args.name.now).text in
    let there : slice_get all c.args.pou ≡ None = slice_get_past all c.args.pou c.in-None.ensures.lookup.3 in
    ap (option_and_then (λ (n : NamesOfPou). get_by_text n.slots q)) (sym there) ∙ ap (λ (xs : List NamesOfPou). option_and_then (λ (n : NamesOfPou). get_by_text n.slots q) (slice_get xs c.args.pou)) c.as_slice.ensures.value ∙ r.bound.slots c.args.pou q
