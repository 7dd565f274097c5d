use Rattle.node_circuit_laws.proofs.Widths.{widths_of_nodes}
use Rattle.node_circuit_laws.proofs.laws.law_widths.Goals as goal

pub returns : goal.returns
returns c = widths_of_nodes
