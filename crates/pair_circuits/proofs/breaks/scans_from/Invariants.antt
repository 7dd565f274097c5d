use Rattle.std.proofs.Common.{◌≡◌, ◌+◌, ◌-◌, ◌*◌, ◌++◌, map}
use Rattle.gates.specs.Netlists.{IsExtensionOf}
use Rattle.query_formulas.specs.CellShapes.{bits_of}
use Rattle.pair_circuits.specs.Views.{parts_view, pair_view, scan_lits_view}
use Rattle.query_formulas.specs.Breaks.{scans_from}
use Rattle.pair_circuits.proofs.breaks.scans_from.Given as goal

abbrev pub invariant-loop-scan : goal.invariant-loop-scan
invariant-loop-scan l = record {
  bits : l.next + (l.count - l._scan) * bits_of l.parts.lines.items ≡ l.first + l.count * bits_of l.parts.lines.items;
  scans : map scan_lits_view l.scans.items ++ (scans_from (parts_view l.parts) (l.count - l._scan) l.next (pair_view l.pair) l.circuit).scans ≡ (scans_from (parts_view l.parts) l.count l.first (pair_view l.initial.pair) l.initial.circuit).scans;
  net : (scans_from (parts_view l.parts) (l.count - l._scan) l.next (pair_view l.pair) l.circuit).net ≡ (scans_from (parts_view l.parts) l.count l.first (pair_view l.initial.pair) l.initial.circuit).net;
  extends : IsExtensionOf l.initial.circuit l.circuit;
}
