use Rattle.std.proofs.Common.{◌≡◌, subst, sym}
use Rattle.std.specs.Prelude.{IfOk}
use Rattle.source_tree.specs.declared.syntax.Bounds.{Bounds}
use Rattle.source_tree.specs.declared.syntax.TypeName.{TypeName}
use Rattle.source_tree.specs.SyntaxView.{type_view, bounds_view}
use Rattle.decl_types.specs.Bodies.{file_in}
use Rattle.typing.specs.Domains.{judged_subrange, judged_type, subrange_domain, domain_of}
use Rattle.rules.specs.Outcomes.{outcome_of}
use Rattle.decl_types.proofs.judged_types.judged_type.Goals as goal

pub returns-in-Subrange-clause-judged : goal.returns-in-Subrange-clause-judged
returns-in-Subrange-clause-judged c =
    let s = c.in-Subrange in
    let f = file_in c.args.domains.now in
    let r = c.judged_subrange_domain.result in
    subst (λ (t : TypeName). IfOk r (λ x. x.0 ≡ outcome_of (judged_type f (type_view t)))) (sym s.is)
    (subst (λ (b : Bounds). IfOk r (λ x. x.0 ≡ outcome_of (judged_subrange f s.kind s.at (bounds_view b)))) c.deref.ensures c.judged_subrange_domain.ensures.judged)

pub returns-in-Subrange-clause-domain : goal.returns-in-Subrange-clause-domain
returns-in-Subrange-clause-domain c =
    let s = c.in-Subrange in
    let f = file_in c.args.domains.now in
    let r = c.judged_subrange_domain.result in
    subst (λ (t : TypeName). IfOk r (λ x. x.1 ≡ domain_of f (type_view t))) (sym s.is)
    (subst (λ (b : Bounds). IfOk r (λ x. x.1 ≡ subrange_domain f s.kind s.at (bounds_view b))) c.deref.ensures c.judged_subrange_domain.ensures.domain)
