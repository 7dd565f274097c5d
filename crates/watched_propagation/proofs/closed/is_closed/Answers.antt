use Rattle.watched_propagation.proofs.Weights.{IsClosed-watching}
use Rattle.watched_propagation.proofs.closed.is_closed.Goals as goal

pub returns : goal.returns
returns c = λ yes. IsClosed-watching c.args.arena.now c.args.pairs.now c.args.lists.now c.args.trail.now c.args.loose.now c.requires (c.is_propagated.ensures.head c.if-not-is_propagated.false) c.is_propagated.ensures.consistent (c.are_satisfied.ensures yes)
