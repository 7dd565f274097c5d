use Rattle.std.proofs.Common.{List}
use Rattle.clause_core.specs.Propagation.{Extends, open_count}
use Rattle.clause_core.specs.Freshness.{Unforced}
use Rattle.clause_core.specs.declared.truth.Truth.{Truth}
use Rattle.cdcl_core.specs.Noting.{Leads}
use Rattle.cdcl_core.proofs.noting.propagate_noting.Given as goal

abbrev pub invariant-loop : goal.invariant-loop
invariant-loop l = record {
  grows : Extends l.values l.initial.values;
  below : (rho : List Truth) → Extends rho l.initial.values → Unforced l.held rho → Extends rho l.values;
  leads : Leads l.held l.initial.values l.values l.hints;
}

abbrev pub decreases-loop : goal.decreases-loop
decreases-loop l = open_count l.values
