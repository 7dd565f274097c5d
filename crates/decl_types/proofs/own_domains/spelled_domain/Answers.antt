use Rattle.std.proofs.Common.{◌≡◌, Some, subst, sym}
use Rattle.source_tree.specs.declared.syntax.Bounds.{Bounds}
use Rattle.source_tree.specs.declared.syntax.TypeName.{TypeName}
use Rattle.source_tree.specs.Syntax.{of_type}
use Rattle.source_tree.specs.SyntaxView.{type_view, bounds_view}
use Rattle.rules.specs.Outcomes.{outcome_of}
use Rattle.decl_types.specs.Bodies.{file_of}
use Rattle.typing.specs.Domains.{subrange_domain, end_domain, judged_subrange, judged_type}
use Rattle.decl_types.proofs.own_domains.spelled_domain.Goals as goal

pub returns-in_ok-judged-in-Subrange-clause-judged : goal.returns-in_ok-judged-in-Subrange-clause-judged
returns-in_ok-judged-in-Subrange-clause-judged c =
    let s = c.in-Subrange in
    let f = file_of c.args.file.now in
    let o = c.in_ok-judged-in-Subrange.judged in
    subst (λ (t : TypeName). o ≡ outcome_of (judged_type f (type_view t))) (sym s.is)
    (subst (λ (b : Bounds). o ≡ outcome_of (judged_subrange f s.kind s.at (bounds_view b))) c.deref.ensures c.in_ok-judged-in-Subrange.ensures.judged)

pub returns-in_ok-judged-in-Subrange-clause-domain : goal.returns-in_ok-judged-in-Subrange-clause-domain
returns-in_ok-judged-in-Subrange-clause-domain c number =
    let s = c.in-Subrange in
    let f = file_of c.args.file.now in
    let d = c.in_ok-judged-in-Subrange.domain in
    subst (λ (t : TypeName). d ≡ end_domain f number (Some (of_type (type_view t)))) (sym s.is)
    (subst (λ (b : Bounds). d ≡ subrange_domain f s.kind s.at (bounds_view b)) c.deref.ensures c.in_ok-judged-in-Subrange.ensures.domain)
