use Rattle.std.proofs.Common.{◌≡◌, ◌-◌, length, []}
use Rattle.source_tree.specs.SyntaxView.{connections_view}
use Rattle.grammar.specs.Reading.{ahead}
use Rattle.grammar.specs.Expressions.{inside}
use Rattle.grammar.specs.Connections.{connections_from}
use Rattle.st_reader.proofs.connection.connections_from.Given as goal

abbrev pub invariant-loop-turn : goal.invariant-loop-turn
invariant-loop-turn l = connections_from (length l.toks) (inside (length l.toks) l.depth) (length l.toks) [] (ahead l.toks l.fn.at) ≡ connections_from (length l.toks) (inside (length l.toks) l.depth) (l._turn-end - l._turn) (connections_view l.found.items) (ahead l.toks l.at)
