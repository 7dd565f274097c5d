use Rattle.std.proofs.Common.{sym, subst}
use Rattle.clause_core.specs.Steps.{AllVariablesBelow}
use Rattle.clause_core.proofs.Ranges.{AllVariablesBelow-within}
use Rattle.cdcl_core.proofs.Decisions.{formula_true-closed}
use Rattle.cdcl_core.proofs.acceptance.satisfies.Goals as goal

pub all_closed-requires : goal.all_closed-requires
all_closed-requires c = subst (λ n. AllVariablesBelow n c.args.held.now) (sym c.requires.size) (AllVariablesBelow-within c.args.variables c.args.held.now c.requires.held)

pub returns-then-none_open : goal.returns-then-none_open
returns-then-none_open c = λ h. formula_true-closed c.args.variables c.args.values.now c.args.held.now c.requires.held (c.all_closed.ensures.0 h) (c.none_open.ensures c.if-none_open.true)
