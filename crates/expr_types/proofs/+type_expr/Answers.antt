use Rattle.std.proofs.Common.{◌≡◌, ◌∙◌, ap, map, arith}
use Rattle.std.proofs.lemmas.Grind.{common_steps}
use Rattle.source_tree.specs.SyntaxView.{links_view, arguments_view}
use Rattle.program_tree.specs.View.{operands_of, operand_view, expressions_of, expr_view}
use Rattle.typing.specs.TypedLists.{operand_list, expression_list}
use Rattle.typing_laws.proofs.TypedLemmas.{operands_of-list, expressions_of-list}
use Rattle.expr_types.proofs.+type_expr.Goals as goal

pub typed_expressions::type_links-returns : goal.typed_expressions::type_links-returns
typed_expressions::type_links-returns g t c =
    let all : map operand_view c.loop-link.operands.items ≡ operand_list (g.S.Scope.means c.args.scope.now) c.args.kind (links_view c.args.links.now) = grind (arith, common_steps) in
    ap operands_of all ∙ operands_of-list (g.S.Scope.means c.args.scope.now) c.args.kind (links_view c.args.links.now)

pub typed_calls::type_operands-returns : goal.typed_calls::type_operands-returns
typed_calls::type_operands-returns g t c =
    let all : map expr_view c.loop-place.operands.items ≡ expression_list (g.S.Scope.means c.args.scope.now) c.args.function c.args.kind 0 (arguments_view c.args.arguments.now) = grind (arith, common_steps) in
    ap expressions_of all ∙ expressions_of-list (g.S.Scope.means c.args.scope.now) c.args.function c.args.kind 0 (arguments_view c.args.arguments.now)
