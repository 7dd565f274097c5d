use Rattle.std.proofs.Common.{◌≡◌, ◌∙◌, ◌+◌, ◌∷◌, ap, arith, drop}
use Rattle.std.specs.Prelude.{[]}
use Rattle.std.proofs.lemmas.Grind.{common_steps}
use Rattle.source_tree.specs.Syntax.{Named}
use Rattle.source_tree.specs.SyntaxView.{connection_view, connections_view}
use Rattle.typing.specs.JudgedStatements.{connected, connects_twice}
use Rattle.typing_laws.proofs.Connecting.{one_name_more, twice_here, twice_later}
use Rattle.stmt_types.proofs.connections.connects_twice.Goals as goal

pub returns-then-is_seen : goal.returns-then-is_seen
returns-then-is_seen c =
    let i = c.loop-connection.connection-index in
    let item = connection_view c.connection-item.result in
    let rest = connections_view (drop (i + 1) c.args.connections.now) in
    let name = c.as_str-name.result.now in
    let all = connects_twice [] (connections_view c.args.connections.now) in
    let names = c.loop-connection.invariant.0 in
    let left : connections_view (drop i c.args.connections.now) ≡ item ∷ rest = grind (arith, common_steps) in
    let known : connects_twice names (item ∷ rest) ≡ all = rw left at c.loop-connection.invariant.2 in
    let named : name ≡ (connected item).text = c.as_str-name.ensures.value ∙ ap (λ (n : Named). n.text) c.connected.ensures in
    twice_here names item rest name c.is_seen.result all named (c.is_seen.ensures ∙ c.loop-connection.invariant.1 name) known c.if-is_seen.true

pub loop-connection-preserved : goal.loop-connection-preserved
loop-connection-preserved c =
    let i = c.loop-connection.connection-index in
    let item = connection_view c.connection-item.result in
    let rest = connections_view (drop (i + 1) c.args.connections.now) in
    let name = c.as_str-name.result.now in
    let all = connects_twice [] (connections_view c.args.connections.now) in
    let names = c.loop-connection.invariant.0 in
    let left : connections_view (drop i c.args.connections.now) ≡ item ∷ rest = grind (arith, common_steps) in
    let known : connects_twice names (item ∷ rest) ≡ all = rw left at c.loop-connection.invariant.2 in
    let named : name ≡ (connected item).text = c.as_str-name.ensures.value ∙ ap (λ (n : Named). n.text) c.connected.ensures in (
      name ∷ names,
      one_name_more c.as_str-name.result _ c.loop-connection.seen c.insert.new.self names c.in_ok-insert.ensures.updates c.loop-connection.invariant.1,
      twice_later names item rest name c.is_seen.result all named (c.is_seen.ensures ∙ c.loop-connection.invariant.1 name) known c.if-is_seen.false,
    )
