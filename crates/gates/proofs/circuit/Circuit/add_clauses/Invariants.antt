use Rattle.std.proofs.Common.{◌≡◌, ◌+◌, true, slice_range}
use Rattle.clause_core.specs.Formula.{BeginsWith}
use Rattle.gates.specs.Clauses.{clauses_from, with_clauses}
use Rattle.gates.specs.Order.{is_ordered}
use Rattle.gates.proofs.circuit.Circuit.add_clauses.Given as goal

abbrev pub invariant-loop-place : goal.invariant-loop-place
invariant-loop-place l = record {
  begins : BeginsWith l.initial.formula l.formula;
  ordered : is_ordered (l.first + l.place) (slice_range l.self.gates l.place l.to) ≡ true;
  same : with_clauses l.formula (clauses_from (l.first + l.place) (slice_range l.self.gates l.place l.to)) ≡ with_clauses l.initial.formula (clauses_from (l.initial.first + l.initial.place) (slice_range l.initial.self.gates l.initial.place l.initial.to));
}
