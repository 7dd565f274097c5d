use Rattle.std.proofs.Common.{◌≡◌, ◌&&◌, drop}
use Rattle.source_tree.specs.SyntaxView.{links_view, arguments_view}
use Rattle.rules.specs.Outcomes.{outcome_of}
use Rattle.typing.specs.Judged.{fit_from, fit_placed}
use Rattle.typing.specs.Outcomes.{links_outcome, arguments_outcome, given_outcome, alone_outcome}
use Rattle.rules.specs.Judgements.{ok}
use Rattle.expr_types.proofs.+judge_expr.Given as goal

abbrev pub invariant-expressions::judge_links-loop-link : goal.invariant-expressions::judge_links-loop-link
invariant-expressions::judge_links-loop-link g l =
    links_outcome (g.S.Scope.means l.scope) l.kind l.left (links_view (drop l.link-index l.links)) ≡ links_outcome (g.S.Scope.means l.scope) l.initial.kind l.initial.left (links_view l.links)

abbrev pub invariant-calls::judge_arguments-loop-place : goal.invariant-calls::judge_arguments-loop-place
invariant-calls::judge_arguments-loop-place g l = record {
  judged : arguments_outcome (g.S.Scope.means l.scope) l.function l.kind l.place l.outcome (arguments_view (drop l.place l.arguments)) ≡ arguments_outcome (g.S.Scope.means l.scope) l.function l.kind 0 (outcome_of ok) (arguments_view l.arguments);
  fit : (l.fit && fit_from (g.S.Scope.means l.scope) l.function l.kind l.place (arguments_view (drop l.place l.arguments))) ≡ fit_from (g.S.Scope.means l.scope) l.function l.kind 0 (arguments_view l.arguments);
}

abbrev pub invariant-calls::judge_alone-loop-argument : goal.invariant-calls::judge_alone-loop-argument
invariant-calls::judge_alone-loop-argument g l =
    alone_outcome (g.S.Scope.means l.scope) l.judged (arguments_view (drop l.argument-index l.arguments)) ≡ alone_outcome (g.S.Scope.means l.scope) (outcome_of ok) (arguments_view l.arguments)

abbrev pub invariant-answers::judge_given-loop-place : goal.invariant-answers::judge_given-loop-place
invariant-answers::judge_given-loop-place g l = record {
  judged : given_outcome (g.S.Scope.means l.scope) l.signature l.place l.outcome (arguments_view (drop l.place l.arguments)) ≡ given_outcome (g.S.Scope.means l.scope) l.signature 0 (outcome_of ok) (arguments_view l.arguments);
  fit : (l.fit && fit_placed (g.S.Scope.means l.scope) l.signature l.place (arguments_view (drop l.place l.arguments))) ≡ fit_placed (g.S.Scope.means l.scope) l.signature 0 (arguments_view l.arguments);
}
