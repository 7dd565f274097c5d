use Rattle.std.proofs.Common.{◌≡◌, Some, None, length, refl, ap, sym, ◌∙◌}
use Rattle.std.specs.List.{slice_get}
use Rattle.std.proofs.lemmas.Option.{slice_get_read, slice_get_past}
use Rattle.std.proofs.Math.Logic.{∥∥₁_elim}
use Rattle.std.proofs.Props.{props}
use Rattle.source_tree.specs.SyntaxView.{name_view}
use Rattle.naming.specs.declared.standing.Standing.TheVariants as standings
use Rattle.naming.specs.FileScope.{standing}
use Rattle.decl_types.specs.Bodies.{file_of}
use Rattle.typing.specs.Domains.{value_at}
use Rattle.typing_laws.proofs.StandingLemmas.{value_counted, value_listed, value_is}
use Rattle.decl_types.proofs.file_types.FileTypes.value_of.Goals as goal

pub returns-in_err-declaration-in-Some-Value : goal.returns-in_err-declaration-in-Some-Value
returns-in_err-declaration-in-Some-Value c =
    let f = file_of c.args.self.now in
    let text = (name_view c.args.name.now).text in
    let ts = c.args.self.now.types.now in
    let v = c.in-Some-Value in
    let got : slice_get ts v.kind ≡ None = slice_get_past ts v.kind c.in_err-declaration-in-Some-Value.ensures.lookup.3 in
    let stands : standing f text ≡ Some (standings.Value v.kind v.number) = sym v.ensures ∙ ap Some v.field-0-is in
    absurd (∥∥₁_elim c.args.self.now.declared (hlevel props) (λ declared. value_listed f text ts v.kind v.number declared got stands))

pub value_of_type-requires : goal.value_of_type-requires
value_of_type-requires c =
    let f = file_of c.args.self.now in
    let text = (name_view c.args.name.now).text in
    let ts = c.args.self.now.types.now in
    let v = c.in-Some-Value in
    let d = c.in_ok-declaration-in-Some-Value in
    let got : slice_get ts v.kind ≡ Some d.declaration.now = slice_get_read ts (length ts) v.kind d.declaration.now refl d.ensures.lookup.3.0 d.ensures.lookup.1 in
    let stands : standing f text ≡ Some (standings.Value v.kind v.number) = sym v.ensures ∙ ap Some v.field-0-is in
    ∥∥₁_elim c.args.self.now.declared (hlevel props) (λ declared. value_counted f text ts v.kind v.number d.declaration.now declared got stands)

pub returns-in_ok-declaration-in-Some-Value : goal.returns-in_ok-declaration-in-Some-Value
returns-in_ok-declaration-in-Some-Value c =
    let f = file_of c.args.self.now in
    let text = (name_view c.args.name.now).text in
    let ts = c.args.self.now.types.now in
    let v = c.in-Some-Value in
    let d = c.in_ok-declaration-in-Some-Value in
    let got : slice_get ts v.kind ≡ Some d.declaration.now = slice_get_read ts (length ts) v.kind d.declaration.now refl d.ensures.lookup.3.0 d.ensures.lookup.1 in
    let stands : standing f text ≡ Some (standings.Value v.kind v.number) = sym v.ensures ∙ ap Some v.field-0-is in
    ∥∥₁_elim c.args.self.now.declared (hlevel props) (λ declared.
    ap Some c.value_of_type.ensures ∙ sym (value_is f ts v.kind v.number d.declaration.now declared got) ∙ ap (value_at f) (sym stands))
