use Rattle.std.proofs.Common.{◌≡◌, ◌++◌, map, take}
use Rattle.clause_core.specs.Clauses.{rank}
use Rattle.watched_propagation.proofs.arena.push_ranks.Given as goal

abbrev pub invariant-loop-literal : goal.invariant-loop-literal
invariant-loop-literal l = l.codes.items ≡ l.initial.codes.items ++ map rank (take l.literal-index l.literals)
