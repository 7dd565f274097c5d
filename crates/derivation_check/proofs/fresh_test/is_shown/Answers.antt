use Rattle.std.proofs.Common.{subst, sym, length, List}
use Rattle.clause_core.specs.declared.truth.Truth.{Truth}
use Rattle.clause_core.specs.Steps.{VariablesBelow}
use Rattle.clause_core.specs.Propagation.{IsClosed}
use Rattle.derivation_check.proofs.fresh_test.is_shown.Goals as goal

pub is_unit-requires : goal.is_unit-requires
is_unit-requires c = subst (λ (vs : List Truth). VariablesBelow (length vs) c.args.literals.now) (sym c.values.ensures) c.requires

pub returns-then-is_closed : goal.returns-then-is_closed
returns-then-is_closed c =
    c.is_unit.ensures.fresh c.args.propagator.now.held (subst (λ (vs : List Truth). IsClosed c.args.propagator.now.held vs) (sym c.values.ensures) (c.is_closed.ensures c.if-is_closed.true))
