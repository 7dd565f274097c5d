use Rattle.std.proofs.Common.{◌≡◌, drop}
use Rattle.clause_core.specs.Undoing.{reopened}
use Rattle.clause_core.proofs.truth.reopen.Given as goal

abbrev pub invariant-loop-literal : goal.invariant-loop-literal
invariant-loop-literal l = reopened l.values (drop l.literal-index l.literals) ≡ reopened l.initial.values l.literals
