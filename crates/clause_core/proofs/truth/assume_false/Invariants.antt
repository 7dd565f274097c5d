use Rattle.std.proofs.Common.{◌≡◌, drop}
use Rattle.clause_core.specs.Steps.{assume_false}
use Rattle.clause_core.proofs.truth.assume_false.Given as goal

abbrev pub invariant-loop-literal : goal.invariant-loop-literal
invariant-loop-literal l = assume_false l.values (drop l.literal-index l.literals) ≡ assume_false l.initial.values l.literals
