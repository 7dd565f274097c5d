use Rattle.std.proofs.Common.{◌≡◌, ℕ, List, [], drop}
use Rattle.source_tree.specs.SyntaxView.{connections_view}
use Rattle.typing.specs.JudgedStatements.{connects_twice}
use Rattle.typing_laws.proofs.Connecting.{HasNames}
use Rattle.stmt_types.proofs.connections.connects_twice.Given as goal

-- the names that were seen, and what is left behind them
abbrev pub invariant-loop-connection : goal.invariant-loop-connection
invariant-loop-connection l =
    (names : List (List ℕ)) × HasNames l.seen names × (connects_twice names (connections_view (drop l.connection-index l.connections)) ≡ connects_twice [] (connections_view l.connections))
