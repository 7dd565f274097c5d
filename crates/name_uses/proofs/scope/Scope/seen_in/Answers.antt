use Rattle.std.proofs.Common.{◌≡◌, Some, None, option_map, length, refl, ap, sym, ◌∙◌}
use Rattle.std.specs.List.{slice_get}
use Rattle.std.proofs.lemmas.Option.{slice_get_read, slice_get_past}
use Rattle.source_tree.specs.SyntaxView.{name_view}
use Rattle.pou_scope.specs.NamesView.{seen_by}
use Rattle.name_uses.proofs.scope.Scope.seen_in.Goals as goal

pub returns-in-Some : goal.returns-in-Some
returns-in-Some c =
    let scope = c.args.self.now in
    let all = scope.pous.now in
    let q = (name_view c.args.name.now).text in
    let lookup = c.in-Some.ensures.lookup in
    let there : slice_get all c.args.number ≡ Some c.in-Some.own.now = slice_get_read all (length all) c.args.number c.in-Some.own.now refl lookup.3.0 lookup.1 in
    ap Some c.used.ensures.seen ∙ ap (option_map (λ n. seen_by n q)) (sym there) ∙ scope.all c.args.number q

pub returns-in-None : goal.returns-in-None
returns-in-None c =
    let scope = c.args.self.now in
    let all = scope.pous.now in
    let q = (name_view c.args.name.now).text in
    let there : slice_get all c.args.number ≡ None = slice_get_past all c.args.number c.in-None.ensures.lookup.3 in
    ap (option_map (λ n. seen_by n q)) (sym there) ∙ scope.all c.args.number q
