use Rattle.std.proofs.Common.{sym, subst, ◌∙◌, List}
use Rattle.clause_core.specs.declared.truth.Truth.{Truth}
use Rattle.clause_core.specs.Steps.{AllVariablesBelow}
use Rattle.clause_core.specs.Propagation.{IsClosed}
use Rattle.clause_core.proofs.Ranges.{AllVariablesBelow-within}
use Rattle.cdcl_core.proofs.decide.next_tested.Goals as goal

pub propose-requires-clause-within : goal.propose-requires-clause-within
propose-requires-clause-within g c = subst (λ n. AllVariablesBelow n c.args.held.now) (sym c.requires.places) (AllVariablesBelow-within c.args.variables c.args.held.now c.requires.held)

pub is_closed-is_closed-requires-clause-within : goal.is_closed-is_closed-requires-clause-within
is_closed-is_closed-requires-clause-within g c =
    subst (λ n. AllVariablesBelow n c.args.held.now) (sym (c.propose.ensures.places ∙ c.requires.places)) (AllVariablesBelow-within c.args.variables c.args.held.now c.requires.held)

pub may_take-requires-clause-closed : goal.may_take-requires-clause-closed
may_take-requires-clause-closed g c = λ yes. subst (λ (vs : List Truth). IsClosed c.args.held.now vs) (sym c.values-in-Derivation.ensures) (c.is_closed-is_closed.ensures yes)
