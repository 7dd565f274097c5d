use Rattle.std.proofs.Common.{◌≡◌, get_or, sym, ◌∙◌, ap, subst}
use Rattle.std.specs.List.{Contains}
use Rattle.clause_core.specs.declared.truth.Truth.TheVariants.{Open}
use Rattle.propagation_trail.specs.Codes.{negated, truth}
use Rattle.propagation_trail.specs.Trails.{TrailState}
use Rattle.propagation_trail.proofs.Tables.{free}
use Rattle.propagation_trail.proofs.trail.Trail.is_free.Goals as goal

pub returns-in_default : goal.returns-in_default
returns-in_default c = λ _ h.
    let i = c.self.inside in
    let is : c.read.result ≡ truth i.values.items c.args.code = c.read.ensures ∙ ap (λ z. get_or z c.args.code Open) c.as_slice.ensures.value ∙ c.self.invariant.tabled.each c.args.code in
    free i.literals.items i.values.items c.args.code c.self.invariant.consistent (λ e. c.in_default.not-False (is ∙ e)) (subst (λ (t : TrailState). Contains t.literals (negated c.args.code)) (sym c.self.view_is) h)
