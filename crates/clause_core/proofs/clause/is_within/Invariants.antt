use Rattle.std.proofs.Common.{◌≡◌, drop}
use Rattle.clause_core.specs.Clauses.{is_within}
use Rattle.clause_core.proofs.clause.is_within.Given as goal

abbrev pub invariant-loop-literal : goal.invariant-loop-literal
invariant-loop-literal l = is_within l.variables (drop l.literal-index l.literals) ≡ is_within l.variables l.literals
