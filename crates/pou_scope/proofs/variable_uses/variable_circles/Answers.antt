use Rattle.std.proofs.Common.{◌≡◌, true, ap, sym, ◌∙◌, subst}
use Rattle.call_order.specs.Uses.{Graph, graph_of, HasCircles}
use Rattle.naming.specs.DeclarationUses.{variable_uses}
use Rattle.naming.specs.Scopes.{scope_with}
use Rattle.naming.specs.ScopeView.{variables_view}
use Rattle.pou_scope.specs.NoUses.{uses_nothing}
use Rattle.pou_scope.proofs.NoUsesLemmas.{no_circles}
use Rattle.pou_scope.proofs.variable_uses.variable_circles.Goals as goal

pub returns-then-uses_nothing : goal.returns-then-uses_nothing
returns-then-uses_nothing c =
    let g = variable_uses (scope_with c.args.has_fault (variables_view c.args.variables.now)) in
    let same = ap graph_of c.deref.ensures.value ∙ c.in_ok-uses.ensures in
    let nothing : uses_nothing g ≡ true = ap uses_nothing (sym same) ∙ sym c.uses_nothing.ensures ∙ c.if-uses_nothing.true in
    subst (λ (circles : Graph). HasCircles g circles) (sym (ap graph_of c.new.ensures.items)) (no_circles g nothing)
