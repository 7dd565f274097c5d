use Rattle.std.proofs.Common.{◌≡◌, ◌++◌, drop, map}
use Rattle.source_tree.specs.SyntaxView.{links_view, arguments_view}
use Rattle.program_tree.specs.View.{expr_view, exprs_view, operand_view}
use Rattle.std.specs.Prelude.{replicate, pos}
use Rattle.program_tree.specs.Tree.{number}
use Rattle.typing.specs.Typed.{placed, typed_given}
use Rattle.typing.specs.TypedLists.{operand_list, expression_list}
use Rattle.expr_types.proofs.+type_expr.Given as goal

abbrev pub invariant-typed_expressions::type_links-loop-link : goal.invariant-typed_expressions::type_links-loop-link
invariant-typed_expressions::type_links-loop-link g l =
    map operand_view l.operands.items ++ operand_list (g.S.Scope.means l.scope) l.kind (links_view (drop l.link-index l.links)) ≡ operand_list (g.S.Scope.means l.scope) l.initial.kind (links_view l.links)

abbrev pub invariant-typed_calls::type_operands-loop-place : goal.invariant-typed_calls::type_operands-loop-place
invariant-typed_calls::type_operands-loop-place g l =
    map expr_view l.operands.items ++ expression_list (g.S.Scope.means l.scope) l.function l.kind l.place (arguments_view (drop l.place l.arguments)) ≡ expression_list (g.S.Scope.means l.scope) l.function l.kind 0 (arguments_view l.arguments)

abbrev pub invariant-typed_answers::type_given-loop-place : goal.invariant-typed_answers::type_given-loop-place
invariant-typed_answers::type_given-loop-place g l =
    placed (exprs_view l.values.items) (typed_given (g.S.Scope.means l.scope) l.signature l.place (arguments_view (drop l.place l.arguments))) ≡ placed (replicate l.signature.count (number (pos 0))) (typed_given (g.S.Scope.means l.scope) l.signature 0 (arguments_view l.arguments))
