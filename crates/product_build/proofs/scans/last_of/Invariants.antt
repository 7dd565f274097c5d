use Rattle.std.proofs.Common.{◌≡◌, drop, map}
use Rattle.pair_circuits.specs.Views.{scan_lits_view}
use Rattle.query_formulas.specs.QueryClauses.{last_count, last_begun}
use Rattle.product_build.proofs.scans.last_of.Given as goal

abbrev pub invariant-loop-next : goal.invariant-loop-next
invariant-loop-next l = record {
  begun : last_begun (scan_lits_view l.last) (map scan_lits_view (drop l.next-index l.others)) ≡ last_begun (scan_lits_view l.first) (map scan_lits_view l.others);
  ended : last_count (scan_lits_view l.last) (map scan_lits_view (drop l.next-index l.others)) ≡ last_count (scan_lits_view l.first) (map scan_lits_view l.others);
}
