use Rattle.node_circuit_laws.proofs.NodeValues.{values_of_nodes}
use Rattle.node_circuit_laws.proofs.laws.law_values.Goals as goal

pub returns : goal.returns
returns c = values_of_nodes
