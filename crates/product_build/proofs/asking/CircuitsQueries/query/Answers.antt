use Rattle.product_build.proofs.Meanings.{product_ordered, scans_ordered}
use Rattle.product_build.proofs.asking.CircuitsQueries.query.Goals as goal

pub first_formula-requires : goal.first_formula-requires
first_formula-requires c = scans_ordered _ _ _ _ c.self.invariant

pub gates_of-requires : goal.gates_of-requires
gates_of-requires c = product_ordered _ _ _ _ c.self.invariant

pub complete_step-requires-clause-order : goal.complete_step-requires-clause-order
complete_step-requires-clause-order c = product_ordered _ _ _ _ c.self.invariant

pub gates_of-requires-in-Goal : goal.gates_of-requires-in-Goal
gates_of-requires-in-Goal c = product_ordered _ _ _ _ c.self.invariant

pub complete_goal-requires-clause-order : goal.complete_goal-requires-clause-order
complete_goal-requires-clause-order c = product_ordered _ _ _ _ c.self.invariant

pub break_formula-requires : goal.break_formula-requires
break_formula-requires c = scans_ordered _ _ _ _ c.self.invariant

pub walk_formula-requires : goal.walk_formula-requires
walk_formula-requires c = scans_ordered _ _ _ _ c.self.invariant
