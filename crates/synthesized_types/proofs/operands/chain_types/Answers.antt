use Rattle.source_tree.specs.SyntaxView.{tree_view, links_view}
use Rattle.synthesized_types.proofs.OperandLemmas.{operand_type-is, synthesized-chain}
use Rattle.synthesized_types.proofs.operands.chain_types.Goals as goal

pub returns-clause-kind : goal.returns-clause-kind
returns-clause-kind g c =
    operand_type-is (g.S.Scope.means c.args.scope.now) (tree_view c.args.first.now) (links_view c.args.links.now) c.look_up-seen.result.synthesized c.synthesized_of_operands-of_operands.result c.look_up-seen.ensures.synthesized c.synthesized_of_operands-of_operands.ensures c.args.expected c.kind_of_operands-kind.result c.kind_of_operands-kind.ensures

pub returns-clause-synthesized : goal.returns-clause-synthesized
returns-clause-synthesized g c =
    synthesized-chain (g.S.Scope.means c.args.scope.now) (tree_view c.args.first.now) (links_view c.args.links.now) c.look_up-seen.result.synthesized c.synthesized_of_operands-of_operands.result c.look_up-seen.ensures.synthesized c.synthesized_of_operands-of_operands.ensures c.synthesized_of_chain-synthesized.result c.synthesized_of_chain-synthesized.ensures
