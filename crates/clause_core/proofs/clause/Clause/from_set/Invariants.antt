use Rattle.std.proofs.Common.{◌≡◌, drop}
use Rattle.clause_core.specs.Clauses.{with_all, set_of}
use Rattle.clause_core.proofs.clause.Clause.from_set.Given as goal

abbrev pub invariant-loop-literal : goal.invariant-loop-literal
invariant-loop-literal l = with_all l.clause (drop l.literal-index l.literals) ≡ set_of l.literals
