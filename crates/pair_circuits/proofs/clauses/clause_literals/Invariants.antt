use Rattle.std.proofs.Common.{◌≡◌, ◌++◌, drop}
use Rattle.gates.specs.Netlists.{IsExtensionOf}
use Rattle.node_circuits.specs.NodeWords.{words_view}
use Rattle.query_formulas.specs.Literals.{clause_literals}
use Rattle.pair_circuits.specs.Views.{clauses_view}
use Rattle.pair_circuits.proofs.clauses.clause_literals.Given as goal

abbrev pub invariant-loop-clause : goal.invariant-loop-clause
invariant-loop-clause l = record {
  starts : words_view l.starts.items ≡ words_view l.initial.starts.items;
  lits : l.lits.items ++ (clause_literals (words_view l.initial.starts.items) (clauses_view (drop l.clause-index l.clauses)) l.circuit).lits ≡ (clause_literals (words_view l.initial.starts.items) (clauses_view l.clauses) l.initial.circuit).lits;
  net : (clause_literals (words_view l.initial.starts.items) (clauses_view (drop l.clause-index l.clauses)) l.circuit).net ≡ (clause_literals (words_view l.initial.starts.items) (clauses_view l.clauses) l.initial.circuit).net;
  extends : IsExtensionOf l.initial.circuit l.circuit;
}
