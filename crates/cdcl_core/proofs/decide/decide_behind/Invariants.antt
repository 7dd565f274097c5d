use Rattle.std.proofs.Common.{◌≡◌, ◌+◌, ◌++◌, List, length}
use Rattle.clause_core.specs.declared.literal.Lit.{Lit}
use Rattle.clause_core.specs.Formula.{BeginsWith}
use Rattle.clause_core.specs.Logs.{steps_of}
use Rattle.cdcl_core.proofs.Grown.{Grown}
use Rattle.cdcl_core.proofs.decide.decide_behind.Given as goal

abbrev pub invariant-loop-turn : goal.invariant-loop-turn
invariant-loop-turn g l = record {
  grown : Grown l.initial.cnf.variables l.initial.cnf.clauses l.cnf.clauses l.log;
  begins : BeginsWith l.initial.cnf l.cnf;
  turns : length (steps_of l.log) ≡ l._turn;
  given : l.given ≡ length l.initial.cnf.clauses;
  size : length l.values.items ≡ l.variables + 1;
  variables : l.variables ≡ l.initial.cnf.variables;
  taken : (taken more : List (List Lit)) × g.S.Search.has_taken l.search taken × (l.cnf.clauses ≡ taken ++ more);
  places : g.S.Search.places l.search ≡ l.variables + 1;
}
