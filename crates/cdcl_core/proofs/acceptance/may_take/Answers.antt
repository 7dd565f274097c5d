use Rattle.std.proofs.Common.{◌≡◌, ◌+◌, length, sym, subst, arith}
use Rattle.clause_core.specs.Steps.{VariablesBelow}
use Rattle.clause_core.specs.Freshness.{IsFresh}
use Rattle.clause_core.proofs.Ranges.{VariablesBelow-fits}
use Rattle.cdcl_core.proofs.acceptance.may_take.Goals as goal

pub is_unit-requires : goal.is_unit-requires
is_unit-requires c =
    let n : length c.args.shown.now ≡ c.args.variables + 1 = omega arith in
    subst (λ m. VariablesBelow m c.literals-literals.result.now) (sym n)
    (subst (VariablesBelow (c.args.variables + 1)) (sym c.literals-literals.ensures) (VariablesBelow-fits c.args.variables 0 c.args.step.now.clause (c.derives.ensures.good c.if-not-derives.false).rises))

pub returns-then-is_closed-clause-fresh : goal.returns-then-is_closed-clause-fresh
returns-then-is_closed-clause-fresh c = λ yes _.
    subst (IsFresh c.args.held.now) c.literals-literals.ensures (c.is_unit.ensures.fresh c.args.held.now (c.requires.closed c.if-is_closed.true) yes)
