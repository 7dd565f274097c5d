use Rattle.std.proofs.Common.{◌≡◌, ◌&&◌, drop}
use Rattle.source_tree.specs.SyntaxView.{name_view, connections_view}
use Rattle.std.specs.List.{list_all}
use Rattle.rules.specs.Judgements.{ok}
use Rattle.rules.specs.Outcomes.{outcome_of}
use Rattle.typing.specs.JudgedStatements.{has_right_arrow}
use Rattle.typing.specs.Outcomes.{connections_outcome}
use Rattle.stmt_types.proofs.connections.judge_connections.Given as goal

abbrev pub invariant-loop-connection : goal.invariant-loop-connection
invariant-loop-connection g l = record {
  judged : connections_outcome (g.S.Scope.means l.scope) l.controls (name_view l.instance) l.all.judged (connections_view (drop l.connection-index l.connections)) ≡ connections_outcome (g.S.Scope.means l.scope) l.controls (name_view l.instance) (outcome_of ok) (connections_view l.connections);
  right : (l.all.right && list_all (has_right_arrow (g.S.Scope.means l.scope) (name_view l.instance)) (connections_view (drop l.connection-index l.connections))) ≡ list_all (has_right_arrow (g.S.Scope.means l.scope) (name_view l.instance)) (connections_view l.connections);
}
