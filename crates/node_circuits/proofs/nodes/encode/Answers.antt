use Rattle.std.proofs.Common.{arith}
use Rattle.std.proofs.lemmas.Result.{err_from_is_err_and}
use Rattle.plc_types.specs.declared.elementary.Elementary.TheVariants as types
use Rattle.std.specs.Prelude.{pos}
use Rattle.node_core.specs.declared.node.Node.{Node}
use Rattle.node_core.specs.declared.node.Node.TheVariants.{Constant}
use Rattle.word_circuits.proofs.Growth.{handed_on}
use Rattle.node_circuits.proofs.Growth.{nodes_turn}
use Rattle.node_circuits.proofs.nodes.encode.Goals as goal

-- the node that stands for none
abbrev no_node : Node
no_node = Constant types.Bool (pos 0)

pub returns-in_err-word-clause-too_many : goal.returns-in_err-word-clause-too_many
returns-in_err-word-clause-too_many c =
    let p = err_from_is_err_and c.from_residual.result c.from_residual.ensures.1 in
    handed_on c.from_residual.result p.0 _ _ _ p.1 p.2 c.in_err-word.ensures.too_many
    (nodes_turn c.args.nodes.now c.loop-node.node-index no_node c.as_slice.result.now c.loop-node.words.items c.loop-node.circuit _ (omega arith) c.as_slice.ensures.value c.loop-node.invariant.same)
