use Rattle.std.proofs.Common.{◌≡◌, ◌≤◌, ◌++◌, List, length}
use Rattle.clause_core.specs.declared.literal.Lit.{Lit}
use Rattle.clause_core.specs.Formula.{Formula, BeginsWith}
use Rattle.cdcl_core.specs.Deleting.{Deletes}
use Rattle.cdcl_core.proofs.letting_go.let_covered_go.Given as goal

abbrev pub invariant-loop : goal.invariant-loop
invariant-loop g l = record {
  deletes : Deletes l.given l.initial.cnf l.cnf l.initial.log l.log;
  begins : (f : Formula) → length f.clauses ≤ l.given → BeginsWith f l.initial.cnf → BeginsWith f l.cnf;
  taken : (taken more : List (List Lit)) × g.S.Search.has_taken l.search taken × (l.cnf.clauses ≡ taken ++ more) × (length taken ≡ l.count);
  places : g.S.Search.places l.search ≡ g.S.Search.places l.initial.search;
}
