use Rattle.std.proofs.Common.{◌≡◌, get_or, sym, ◌∙◌, ap, subst}
use Rattle.std.specs.List.{Contains}
use Rattle.clause_core.specs.declared.truth.Truth.TheVariants.{Open}
use Rattle.propagation_trail.specs.Codes.{truth}
use Rattle.propagation_trail.specs.Trails.{TrailState}
use Rattle.propagation_trail.proofs.trail.Trail.is_true.Goals as goal

pub returns-in-True-clause-on : goal.returns-in-True-clause-on
returns-in-True-clause-on c = λ _.
    let i = c.self.inside in
    let is : c.read.result ≡ truth i.values.items c.args.code = c.read.ensures ∙ ap (λ z. get_or z c.args.code Open) c.as_slice.ensures.value ∙ c.self.invariant.tabled.each c.args.code in
    subst (λ (t : TrailState). Contains t.literals c.args.code) c.self.view_is (c.self.invariant.consistent.known c.args.code (sym is ∙ c.in-True.is))
