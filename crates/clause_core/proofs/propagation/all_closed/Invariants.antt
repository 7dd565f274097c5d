use Rattle.std.proofs.Common.{take}
use Rattle.clause_core.specs.Propagation.{IsClosed}
use Rattle.clause_core.proofs.propagation.all_closed.Given as goal

abbrev pub invariant-loop-clause : goal.invariant-loop-clause
invariant-loop-clause l = IsClosed (take l.clause-index l.held) l.values
