use Rattle.std.proofs.Common.{◌≡◌, ◌++◌, drop}
use Rattle.source_tree.specs.SyntaxView.{connections_view}
use Rattle.naming.specs.Broken.{in_connections}
use Rattle.naming.specs.Circles.{calls_in_connections}
use Rattle.pou_scope.specs.NamesView.{file_in, pou_in}
use Rattle.rules.specs.Outcomes.{outcome_of, both}
use Rattle.name_uses.proofs.walk.walk_connections.Given as goal

abbrev pub invariant-loop-connection : goal.invariant-loop-connection
invariant-loop-connection l = record {
  judged :
      both l.outcome (outcome_of (in_connections (file_in l.scope.names) (pou_in l.scope.names) l.block (connections_view (drop l.connection-index l.connections))))
      ≡ both l.fn.outcome (outcome_of (in_connections (file_in l.scope.names) (pou_in l.scope.names) l.block (connections_view l.connections)));
  calls :
      l.calls.items ++ calls_in_connections (file_in l.scope.names) (connections_view (drop l.connection-index l.connections))
      ≡ l.fn.calls.items ++ calls_in_connections (file_in l.scope.names) (connections_view l.connections);
}
