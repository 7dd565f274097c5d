use Rattle.std.proofs.Common.{◌≡◌, ◌<◌, ◌≤◌, take, List, true, false}
use Rattle.clause_core.specs.Propagation.{IsClosed, Extends, open_count}
use Rattle.clause_core.specs.Freshness.{Unforced}
use Rattle.clause_core.specs.declared.truth.Truth.{Truth}
use Rattle.clause_core.proofs.propagation.propagate_once.Given as goal

abbrev pub invariant-loop-clause : goal.invariant-loop-clause
invariant-loop-clause l = record {
  fewer : l.changed ≡ true → open_count l.values < open_count l.initial.values;
  falls : open_count l.values ≤ open_count l.initial.values;
  closed : l.changed ≡ false → IsClosed (take l.clause-index l.held) l.values;
  grows : Extends l.values l.initial.values;
  below : (rho : List Truth) → Extends rho l.initial.values → Unforced l.held rho → Extends rho l.values;
}
