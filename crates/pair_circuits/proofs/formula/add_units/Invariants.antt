use Rattle.std.proofs.Common.{◌≡◌, drop}
use Rattle.clause_core.specs.Formula.{BeginsWith}
use Rattle.gates.specs.Clauses.{with_clauses}
use Rattle.query_formulas.specs.QueryClauses.{AreInside, units}
use Rattle.pair_circuits.proofs.formula.add_units.Given as goal

abbrev pub invariant-loop-lit : goal.invariant-loop-lit
invariant-loop-lit l = record {
  begins : BeginsWith l.initial.formula l.formula;
  inside : AreInside l.formula.variables (drop l.lit-index l.lits);
  same : with_clauses l.formula (units (drop l.lit-index l.lits)) ≡ with_clauses l.initial.formula (units l.lits);
}
