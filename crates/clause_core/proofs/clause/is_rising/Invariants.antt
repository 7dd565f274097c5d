use Rattle.std.proofs.Common.{◌≡◌, drop}
use Rattle.clause_core.specs.Clauses.{fits_in}
use Rattle.clause_core.proofs.clause.is_rising.Given as goal

abbrev pub invariant-loop-literal : goal.invariant-loop-literal
invariant-loop-literal l = fits_in l.variables l.last (drop l.literal-index l.literals) ≡ fits_in l.variables 0 l.literals
