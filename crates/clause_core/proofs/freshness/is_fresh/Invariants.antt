use Rattle.std.proofs.Common.{ℕ, ◌<◌, get_or, List}
use Rattle.clause_core.specs.declared.literal.Lit.{Lit}
use Rattle.clause_core.specs.declared.truth.Truth.{Truth}
use Rattle.clause_core.specs.Freshness.{ShowsFresh}
use Rattle.clause_core.proofs.freshness.is_fresh.Given as goal

abbrev pub invariant-loop-i : goal.invariant-loop-i
invariant-loop-i l = (k : ℕ) (d : Lit) (rho : List Truth) → k < l.i → ShowsFresh l.held l.literals (get_or l.literals k d) rho → ⊥
