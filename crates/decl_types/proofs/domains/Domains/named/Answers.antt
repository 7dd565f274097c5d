use Rattle.std.proofs.Common.{◌≡◌, Some, ap, sym, ◌∙◌, arith}
use Rattle.std.specs.Prelude.{unwrap_or}
use Rattle.std.specs.List.{slice_get}
use Rattle.std.proofs.lemmas.Option.{unwrap_or-slice_get}
use Rattle.source_tree.specs.SyntaxView.{name_view}
use Rattle.naming.specs.declared.standing.Standing.TheVariants as standings
use Rattle.naming.specs.FileScope.{types_of, standing}
use Rattle.naming.specs.Types.{specification_at}
use Rattle.decl_types.specs.Bodies.{file_in}
use Rattle.typing.specs.declared.domain.Domain.{Domain}
use Rattle.typing.specs.Domains.{end_domain, named_domain}
use Rattle.typing.specs.OwnDomains.{own_domains}
use Rattle.typing_laws.proofs.DomainLemmas.{end_of_own}
use Rattle.decl_types.proofs.domains.Domains.named.Goals as goal

pub returns-in-Some-Type : goal.returns-in-Some-Type
returns-in-Some-Type c =
    let f = file_in c.args.self.now in
    let own = c.deref.result.now in
    let t = c.in-Some-Type.number in
    let e = c.end_of-end.result in
    let spelled : own ≡ own_domains f 0 (types_of f) = c.deref.ensures.value ∙ c.args.self.now.spelled in
    let stands : standing f (name_view c.args.name.now).text ≡ Some (standings.Type t) = sym c.in-Some-Type.ensures ∙ ap Some c.in-Some-Type.field-0-is in
    c.unwrap_or.ensures ∙ ap (λ o. unwrap_or o c.no_domain.result) c.copied.ensures ∙ c.get.ensures.lookup.4 (omega arith) c.no_domain.result ∙ sym (unwrap_or-slice_get own e c.no_domain.result)
    ∙ ap (λ (d : Domain). unwrap_or (slice_get own e) d) c.no_domain.ensures ∙ end_of_own f own e spelled ∙ ap (λ k. end_domain f k (specification_at f k)) c.end_of-end.ensures ∙ ap (named_domain f) (sym stands)
