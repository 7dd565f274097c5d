use Rattle.node_circuit_laws.proofs.NodeOrders.{order_of_nodes, once_of_nodes}
use Rattle.node_circuit_laws.proofs.laws.law_order.Goals as goal

pub returns-clause-words : goal.returns-clause-words
returns-clause-words c = order_of_nodes

pub returns-clause-once : goal.returns-clause-once
returns-clause-once c = once_of_nodes
