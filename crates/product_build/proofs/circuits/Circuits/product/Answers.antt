use Rattle.product_build.proofs.Meanings.{product_ordered}
use Rattle.product_build.proofs.circuits.Circuits.product.Goals as goal

pub returns-clause-ordered : goal.returns-clause-ordered
returns-clause-ordered c = (product_ordered _ _ _ _ c.self.invariant).ordered
