use Rattle.std.proofs.Common.{◌≡◌, [], ◌+◌, ◌++◌, drop, ap, sym, ◌∙◌, arith}
use Rattle.std.proofs.lemmas.List.{drop_all}
use Rattle.source_tree.specs.SyntaxView.{connection_view, connections_view}
use Rattle.naming.specs.Broken.{in_connection, in_connections}
use Rattle.pou_scope.specs.NamesView.{file_in, pou_in}
use Rattle.rules.specs.Outcomes.{outcome_of, both}
use Rattle.rules.proofs.Outcomes.{before_rest, loop_done}
use Rattle.naming.specs.Circles.{calls_in_connection, calls_in_connections}
use Rattle.naming.proofs.ListLemmas.{then_more}
use Rattle.naming.proofs.Steps.{view-drop}
use Rattle.name_uses.proofs.walk.walk_connections.Goals as goal

pub loop-connection-preserved : goal.loop-connection-preserved
loop-connection-preserved c =
    let f = file_in c.args.scope.now.names in
    let p = pou_in c.args.scope.now.names in
    let x = c.connection-item.result in
    let rest = connections_view (drop (c.loop-connection.connection-index + 1) c.args.connections.now) in
    let left = view-drop connection_view c.args.connections.now c.loop-connection.connection-index x (omega arith) c.connection-item.is in
    let all = ap (λ cs. both c.loop-connection.outcome (outcome_of (in_connections f p c.args.block cs))) (sym left) ∙ c.loop-connection.invariant.judged in
    let calls = c.loop-connection.calls.items in
    record {
      judged = before_rest c.loop-connection.outcome c.walk_connection.new.outcome _ (in_connection f p c.args.block (connection_view x)) (in_connections f p c.args.block rest) c.in_ok-walk_connection.ensures.judged all;
      calls = then_more calls c.walk_connection.new.calls.items (calls_in_connection f (connection_view x)) (calls_in_connections f rest) _ c.in_ok-walk_connection.ensures.calls (ap (λ cs. calls ++ calls_in_connections f cs) (sym left) ∙ c.loop-connection.invariant.calls);
    }

pub returns-clause-judged : goal.returns-clause-judged
returns-clause-judged c =
    let f = file_in c.args.scope.now.names in
    let p = pou_in c.args.scope.now.names in
    let xs = c.args.connections.now in
    let i = c.loop-connection.connection-index in
    let none : drop i xs ≡ [] = drop_all i xs (omega arith) in
    loop_done c.loop-connection.outcome c.args.outcome.now (in_connections f p c.args.block (connections_view (drop i xs))) (in_connections f p c.args.block (connections_view xs)) c.loop-connection.invariant.judged (ap (λ ys. in_connections f p c.args.block (connections_view ys)) none)
