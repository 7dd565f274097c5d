use Rattle.std.proofs.Common.{◌≡◌, ◌-◌, length, []}
use Rattle.source_tree.specs.SyntaxView.{names_view}
use Rattle.grammar.specs.Reading.{ahead}
use Rattle.grammar.specs.Expressions.{members}
use Rattle.st_reader.proofs.path.members.Given as goal

abbrev pub invariant-loop-turn : goal.invariant-loop-turn
invariant-loop-turn l = members (length l.toks) [] (ahead l.toks l.fn.at) ≡ members (l._turn-end - l._turn) (names_view l.names.items) (ahead l.toks l.at)
