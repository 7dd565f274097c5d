use Rattle.std.proofs.Common.{◌≡◌, ℕ, Result, Ok, Err, Some, subst, sym}
use Rattle.std.specs.Prelude.{IfOk}
use Rattle.source_tree.specs.declared.syntax.Specification.{Specification}
use Rattle.source_tree.specs.Syntax.{of_type}
use Rattle.source_tree.specs.SyntaxView.{name_view, type_view, specification_view}
use Rattle.rules.specs.Outcomes.{outcome_of}
use Rattle.decl_types.specs.Bodies.{file_of}
use Rattle.decl_types.specs.Spelled.{spelled_outcome}
use Rattle.typing.specs.declared.domain.Domain.{Domain}
use Rattle.typing.specs.Domains.{end_domain, judged_specification}
use Rattle.decl_types.proofs.own_domains.end_domain.Goals as goal

at_number : {A E : Type 0} (r : Result A E) (domain : A → Domain) (of : ℕ → Domain) (number : ℕ) → IfOk r (λ a. (n : ℕ) → domain a ≡ of n) → IfOk r (λ a. domain a ≡ of number)
at_number (Ok a) domain of number all = all number
at_number (Err e) domain of number all = tt

pub returns-in-Type-clause-judged : goal.returns-in-Type-clause-judged
returns-in-Type-clause-judged c =
    let f = file_of c.args.file.now in
    let r = c.spelled_domain.result in
    subst (λ (s : Specification). IfOk r (λ x. spelled_outcome f x.0 ≡ outcome_of (judged_specification f (name_view c.args.name.now) (specification_view s)))) (sym c.in-Type.is) c.spelled_domain.ensures.judged

pub returns-in-Type-clause-domain : goal.returns-in-Type-clause-domain
returns-in-Type-clause-domain c =
    let f = file_of c.args.file.now in
    let r = c.spelled_domain.result in
    subst (λ (s : Specification). IfOk r (λ x. x.1 ≡ end_domain f c.args.number (Some (specification_view s)))) (sym c.in-Type.is)
    (at_number r (λ x. x.1) (λ n. end_domain f n (Some (of_type (type_view c.in-Type.kind)))) c.args.number c.spelled_domain.ensures.domain)
