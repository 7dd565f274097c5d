use Rattle.std.proofs.Common.{◌≡◌, ◌<◌, ◌≤◌, take, List, true, false}
use Rattle.clause_core.specs.Propagation.{IsClosed, Extends, open_count}
use Rattle.clause_core.specs.Freshness.{Unforced}
use Rattle.clause_core.specs.declared.truth.Truth.{Truth}
use Rattle.cdcl_core.specs.Noting.{Leads}
use Rattle.cdcl_core.proofs.noting.propagate_once_noting.Given as goal

abbrev pub invariant-loop-index : goal.invariant-loop-index
invariant-loop-index l = record {
  fewer : l.changed ≡ true → open_count l.values < open_count l.initial.values;
  falls : open_count l.values ≤ open_count l.initial.values;
  closed : l.changed ≡ false → IsClosed (take l.index l.held) l.values;
  grows : Extends l.values l.initial.values;
  below : (rho : List Truth) → Extends rho l.initial.values → Unforced l.held rho → Extends rho l.values;
  leads : (start : List Truth) → Leads l.held start l.initial.values l.initial.hints → Leads l.held start l.values l.hints;
}
