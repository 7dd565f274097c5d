use Rattle.std.proofs.Common.{◌≡◌, drop, map}
use Rattle.std.specs.Prelude.{All}
use Rattle.gates.specs.Clauses.{with_clauses}
use Rattle.pair_circuits.specs.Views.{scan_lits_view}
use Rattle.query_formulas.specs.QueryClauses.{walk_units}
use Rattle.product_build.specs.Counts.{IsRowInside}
use Rattle.product_build.proofs.scans.add_rows.Given as goal

abbrev pub invariant-loop-scan : goal.invariant-loop-scan
invariant-loop-scan l = record {
  scans : All (IsRowInside l.formula.variables) (map scan_lits_view (drop l.scan-index l.scans));
  same : with_clauses l.formula (walk_units (map scan_lits_view (drop l.scan-index l.scans))) ≡ with_clauses l.initial.formula (walk_units (map scan_lits_view l.scans));
}
