use Rattle.std.proofs.Common.{◌≢◌, ℕ, ◌<◌, get_or}
use Rattle.clause_core.specs.declared.truth.Truth.TheVariants.{Open}
use Rattle.cdcl_core.proofs.acceptance.none_open.Given as goal

abbrev pub invariant-loop-variable : goal.invariant-loop-variable
invariant-loop-variable l = (k : ℕ) → 0 < k → k < l.variable → get_or l.values k Open ≢ Open
