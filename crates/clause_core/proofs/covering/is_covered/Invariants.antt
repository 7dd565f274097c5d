use Rattle.std.proofs.Common.{◌≡◌, suc, drop}
use Rattle.clause_core.specs.Deletions.{covers_from, is_covered}
use Rattle.clause_core.proofs.covering.is_covered.Given as goal

abbrev pub invariant-loop-index : goal.invariant-loop-index
invariant-loop-index l = covers_from l.number (suc l.index) (drop l.index l.held) l.clause ≡ is_covered l.held l.number l.clause
