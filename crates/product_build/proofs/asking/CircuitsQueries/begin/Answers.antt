use Rattle.product_build.proofs.Meanings.{product_ordered}
use Rattle.product_build.proofs.asking.CircuitsQueries.begin.Goals as goal

pub gates_of-requires : goal.gates_of-requires
gates_of-requires c = product_ordered _ _ _ _ c.self.invariant
