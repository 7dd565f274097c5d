use Rattle.std.proofs.Common.{◌≡◌, drop, map}
use Rattle.std.specs.Prelude.{All}
use Rattle.gates.specs.Clauses.{with_clauses}
use Rattle.pair_circuits.specs.Views.{scan_lits_view}
use Rattle.query_formulas.specs.QueryClauses.{break_units}
use Rattle.product_build.specs.Counts.{AreLitsInside}
use Rattle.product_build.proofs.scans.add_break.Given as goal

abbrev pub invariant-loop-next : goal.invariant-loop-next
invariant-loop-next l = record {
  here : AreLitsInside l.formula.variables (scan_lits_view l.scan);
  others : All (AreLitsInside l.formula.variables) (map scan_lits_view (drop l.next-index l.others));
  same : with_clauses l.formula (break_units (scan_lits_view l.scan) (map scan_lits_view (drop l.next-index l.others))) ≡ with_clauses l.initial.formula (break_units (scan_lits_view l.first) (map scan_lits_view l.others));
}
