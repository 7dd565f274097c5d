use Rattle.std.proofs.Common.{◌≡◌, ap, sym, ◌∙◌, refl, length, Some, []}
use Rattle.std.specs.List.{slice_get}
use Rattle.std.proofs.lemmas.Option.{slice_get_read}
use Rattle.decl_types.specs.Bodies.{file_in}
use Rattle.pou_cells.proofs.TableLemmas.{ports_at-is}
use Rattle.pou_cells.proofs.pous.Pous.ports_at.Goals as goal

pub returns-in-Some : goal.returns-in-Some
returns-in-Some c =
    let f = file_in c.args.self.now.domains in
    let ts = c.deref.result.now in
    let vs = c.args.self.now.ports.items in
    let k = c.args.number in
    let got : slice_get ts k ≡ Some c.in-Some.ports.now = slice_get_read ts (length ts) k c.in-Some.ports.now refl c.in-Some.ensures.lookup.3.0 c.in-Some.ensures.lookup.1 in
    let here : slice_get vs k ≡ Some c.in-Some.ports.now = ap (λ l. slice_get l k) (sym c.deref.ensures.value) ∙ got in
    c.deref-in-Some.ensures.value ∙ ports_at-is f [] vs k (Some c.in-Some.ports.now) c.args.self.now.given here
