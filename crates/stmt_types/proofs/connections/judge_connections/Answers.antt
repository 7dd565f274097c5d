use Rattle.std.proofs.Common.{◌≡◌, ◌+◌, ◌∷◌, arith, drop}
use Rattle.std.proofs.lemmas.Grind.{common_steps}
use Rattle.source_tree.specs.SyntaxView.{name_view, connection_view, connections_view}
use Rattle.typing.specs.JudgedStatements.{has_right_arrow}
use Rattle.stmt_types.proofs.ArrowLemmas.{one_connection_more, one_arrow_more}
use Rattle.stmt_types.proofs.connections.judge_connections.Goals as goal

pub loop-connection-preserved : goal.loop-connection-preserved
loop-connection-preserved g c =
    let i = c.loop-connection.connection-index in
    let scope = g.S.Scope.means c.args.scope.now in
    let n = name_view c.args.instance.now in
    let item = connection_view c.connection-item.result in
    let rest = connections_view (drop (i + 1) c.args.connections.now) in
    let left : connections_view (drop i c.args.connections.now) ≡ item ∷ rest = grind (arith, common_steps) in
    let known = c.loop-connection.invariant in
    record {
      judged = one_connection_more scope c.args.controls.now n c.loop-connection.all.judged c.in_ok-next.next.judged c.with_next-all.result.judged _ item _ rest left c.in_ok-next.ensures.judged c.with_next-all.ensures.judged known.judged;
      right = one_arrow_more (has_right_arrow scope n) c.loop-connection.all.right c.in_ok-next.next.right c.with_next-all.result.right _ item _ rest left c.in_ok-next.ensures.right c.with_next-all.ensures.right known.right;
    }
