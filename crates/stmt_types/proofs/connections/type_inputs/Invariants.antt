use Rattle.std.proofs.Common.{◌≡◌, ◌++◌, map, drop}
use Rattle.source_tree.specs.SyntaxView.{name_view, connections_view}
use Rattle.program_tree.specs.View.{stmt_view}
use Rattle.typing.specs.TypedStatements.{typed_inputs}
use Rattle.stmt_types.proofs.connections.type_inputs.Given as goal

abbrev pub invariant-loop-connection : goal.invariant-loop-connection
invariant-loop-connection g l =
    map stmt_view l.list.items ++ typed_inputs (g.S.Scope.means l.scope) (name_view l.instance) (connections_view (drop l.connection-index l.connections)) ≡ map stmt_view l.initial.list.items ++ typed_inputs (g.S.Scope.means l.scope) (name_view l.instance) (connections_view l.connections)
