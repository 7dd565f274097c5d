use Rattle.std.proofs.Common.{◌≢◌, ℕ, ◌<◌, get_or}
use Rattle.clause_core.specs.declared.truth.Truth.TheVariants.{Open}
use Rattle.std.specs.List.{All}
use Rattle.cdcl_core.proofs.Decisions.{Settled}
use Rattle.cdcl_core.proofs.next.next_step.Given as goal

abbrev pub invariant-loop-variable : goal.invariant-loop-variable
invariant-loop-variable l = record {
  settled : Settled l.variables l.held l.clause l.values;
  before : All (λ m. m.variable < l.variable) l.clause;
  set : (k : ℕ) → 0 < k → k < l.variable → get_or l.values k Open ≢ Open;
}
