use Rattle.node_laws.proofs.Evaluation.{take_values}
use Rattle.node_laws.proofs.laws.nodes_take_values.Goals as goal

pub returns : goal.returns
returns c = take_values
