use Rattle.product_build.proofs.Meanings.{product_ordered}
use Rattle.product_build.proofs.asking.CircuitsQueries.complete.Goals as goal

pub complete_step-requires-clause-order : goal.complete_step-requires-clause-order
complete_step-requires-clause-order c = product_ordered _ _ _ _ c.self.invariant

pub complete_goal-requires-clause-order : goal.complete_goal-requires-clause-order
complete_goal-requires-clause-order c = product_ordered _ _ _ _ c.self.invariant
