use Rattle.std.proofs.Common.{◌≡◌, sym, ◌∙◌, ap, subst}
use Rattle.std.specs.List.{list_any}
use Rattle.clause_core.specs.Satisfaction.{HasNoSolution}
use Rattle.derivation_check.specs.Checks.{Derivation}
use Rattle.derivation_check.specs.Inside.{is_empty}
use Rattle.derivation_check.proofs.Pushed.{no_solution, contains-empty, any-empty}
use Rattle.derivation_check.proofs.checker.Checker.refuted.Goals as goal

pub returns-clause-exact : goal.returns-clause-exact
returns-clause-exact c =
    let is : c.self.inside.is_refuted ≡ list_any is_empty c.args.self.now.derived = c.self.invariant.refuted ∙ ap (λ (d : Derivation). list_any is_empty d.derived) c.self.view_is in
    (λ h. contains-empty c.args.self.now.derived (sym is ∙ h), λ h. is ∙ any-empty c.args.self.now.derived h)

pub returns-clause-unsatisfiable : goal.returns-clause-unsatisfiable
returns-clause-unsatisfiable c = λ h.
    subst (λ (d : Derivation). HasNoSolution d.formula.clauses) c.self.view_is
    (no_solution c.self.inside.given c.self.inside.held.clauses c.self.invariant.implied (sym c.self.invariant.refuted ∙ h))
