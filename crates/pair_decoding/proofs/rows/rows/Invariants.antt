use Rattle.std.proofs.Common.{◌≡◌, ◌++◌, drop, map}
use Rattle.clause_core.specs.Satisfaction.{assigned}
use Rattle.pair_circuits.specs.Views.{scan_lits_view}
use Rattle.query_formulas.specs.Decoded.{decoded_state}
use Rattle.pair_decoding.proofs.rows.rows.Given as goal

abbrev pub invariant-loop-scan : goal.invariant-loop-scan
invariant-loop-scan l = l.rows.items ++ map (λ s. decoded_state l.cells s.inputs (assigned l.found)) (map scan_lits_view (drop l.scan-index l.scans)) ≡ map (λ s. decoded_state l.cells s.inputs (assigned l.found)) (map scan_lits_view l.scans)
