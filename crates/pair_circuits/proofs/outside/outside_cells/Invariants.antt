use Rattle.std.proofs.Common.{◌≡◌, ◌++◌, drop}
use Rattle.gates.specs.Netlists.{IsExtensionOf}
use Rattle.node_circuits.specs.NodeWords.{words_view}
use Rattle.query_formulas.specs.Literals.{outside_cells}
use Rattle.pair_circuits.proofs.outside.outside_cells.Given as goal

abbrev pub invariant-loop-i : goal.invariant-loop-i
invariant-loop-i l = record {
  lits : l.lits.items ++ (outside_cells (drop l.i l.cells) (words_view (drop l.i l.words)) l.circuit).lits ≡ (outside_cells l.cells (words_view l.words) l.initial.circuit).lits;
  net : (outside_cells (drop l.i l.cells) (words_view (drop l.i l.words)) l.circuit).net ≡ (outside_cells l.cells (words_view l.words) l.initial.circuit).net;
  extends : IsExtensionOf l.initial.circuit l.circuit;
}
