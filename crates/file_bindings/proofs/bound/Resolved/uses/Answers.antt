use Rattle.std.proofs.Common.{◌≡◌, Some, None, length, refl, ap, sym, ◌∙◌}
use Rattle.std.specs.List.{slice_get}
use Rattle.std.proofs.lemmas.Option.{slice_get_read, slice_get_past}
use Rattle.call_order.specs.Uses.{graph_of, uses_at}
use Rattle.file_bindings.proofs.BindingLemmas.{uses_there, uses_past}
use Rattle.file_bindings.proofs.bound.Resolved.uses.Goals as goal

pub returns-in-Some : goal.returns-in-Some
returns-in-Some c =
    let all = c.as_slice.result.now in
    let k = c.args.number in
    let lookup = c.in-Some.ensures.lookup in
    let there : slice_get all k ≡ Some c.in-Some.uses.now = slice_get_read all (length all) k c.in-Some.uses.now refl lookup.3.0 lookup.1 in
    c.deref.ensures.value ∙ sym (uses_there all k c.in-Some.uses.now there) ∙ ap (λ us. uses_at (graph_of us) k) c.as_slice.ensures.value ∙ ap (λ g. uses_at g k) c.args.self.now.bound.uses

pub returns-in-None : goal.returns-in-None
returns-in-None c =
    let all = c.as_slice.result.now in
    let k = c.args.number in
    let there : slice_get all k ≡ None = slice_get_past all k c.in-None.ensures.lookup.3 in
    sym (uses_past all k there) ∙ ap (λ us. uses_at (graph_of us) k) c.as_slice.ensures.value ∙ ap (λ g. uses_at g k) c.args.self.now.bound.uses
