use Rattle.std.proofs.Common.{◌≡◌, ap, sym, ◌∙◌, refl, length, Some}
use Rattle.std.specs.Prelude.{is_some}
use Rattle.std.specs.List.{slice_get}
use Rattle.std.proofs.lemmas.Option.{slice_get_read}
use Rattle.decl_types.specs.Bodies.{file_in}
use Rattle.pou_cells.proofs.PlacedLemmas.{placed_at-is, some_items}
use Rattle.pou_cells.proofs.placed_pous.PlacedPous.has_places.Goals as goal

pub returns-in-Some : goal.returns-in-Some
returns-in-Some c =
    let f = file_in c.args.self.now.pous.domains in
    let ts = c.deref.result.now in
    let k = c.args.number in
    let members = c.in-Some.members.now in
    let got : slice_get ts k ≡ Some members = slice_get_read ts (length ts) k members refl c.in-Some.ensures.lookup.3.0 c.in-Some.ensures.lookup.1 in
    let here : slice_get c.args.self.now.members.items k ≡ Some members = ap (λ l. slice_get l k) (sym c.deref.ensures.value) ∙ got in
    c.is_some.ensures ∙ some_items members ∙ ap is_some (placed_at-is f c.args.self.now.members.items k (Some members) c.args.self.now.placed here)
