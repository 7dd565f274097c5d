use Rattle.std.proofs.Common.{◌≡◌, drop}
use Rattle.gates.specs.Netlists.{IsExtensionOf}
use Rattle.node_circuits.specs.NodeWords.{words_view, words_of_nodes}
use Rattle.node_circuits.proofs.nodes.encode.Given as goal

abbrev pub invariant-loop-node : goal.invariant-loop-node
invariant-loop-node l = record {
  same : words_of_nodes (drop l.node-index l.nodes) (words_view l.words.items) l.circuit ≡ words_of_nodes l.nodes (words_view l.initial.words.items) l.initial.circuit;
  extends : IsExtensionOf l.initial.circuit l.circuit;
}
