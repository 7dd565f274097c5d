use Rattle.node_circuits.proofs.Growth.{extends_nodes}
use Rattle.node_circuit_laws.proofs.NodeValues.{starts_kept, start_values}
use Rattle.node_circuit_laws.proofs.laws.law_starts.Goals as goal

pub returns-clause-gates : goal.returns-clause-gates
returns-clause-gates c = extends_nodes

pub returns-clause-words : goal.returns-clause-words
returns-clause-words c = starts_kept

pub returns-clause-values : goal.returns-clause-values
returns-clause-values c = start_values
