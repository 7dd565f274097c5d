use Rattle.std.proofs.Common.{◌≡◌, drop}
use Rattle.clause_core.specs.Deletions.{is_part}
use Rattle.clause_core.proofs.covering.is_part.Given as goal

abbrev pub invariant-loop-literal : goal.invariant-loop-literal
invariant-loop-literal l = is_part (drop l.literal-index l.part) l.clause ≡ is_part l.part l.clause
