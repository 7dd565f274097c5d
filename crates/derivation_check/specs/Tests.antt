-- What the test of fresh clauses holds.
use Rattle.std.specs.Prelude.{◌≡◌, ◌+◌, List, Option, IfSome, length}
use Rattle.clause_core.specs.declared.truth.Truth.{Truth}
use Rattle.clause_core.specs.Formula.{Formula}
use Rattle.clause_core.specs.Freshness.{Unforced}
use Rattle.watched_propagation.specs.Propagations.{Propagation}

-- What forces none of its clauses forces none of the formula's: it may hold clauses that the formula holds no more. Each variable
-- has a value.
pub record IsOver (f : Formula) (p : Propagation) : Type 0 where
  pub held : (vs : List Truth) → Unforced p.held vs → Unforced f.clauses vs
  pub size : length p.values ≡ f.variables + 1

-- the test, if it is made, is over the formula
abbrev pub IsTestOf : Formula → Option Propagation → Type 0
IsTestOf f test = IfSome test (IsOver f)
