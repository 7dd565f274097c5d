use Rattle.std.proofs.Common.{map, take, ◌∙◌}
use Rattle.clause_core.specs.Clauses.{rank}
use Rattle.watched_propagation.proofs.arena.push_ranks.Goals as goal

pub returns-in_err-push-clause-more : goal.returns-in_err-push-clause-more
returns-in_err-push-clause-more c = (map rank (take c.loop-literal.literal-index c.args.literals.now), c.in_err-push.ensures.items ∙ c.loop-literal.invariant)
