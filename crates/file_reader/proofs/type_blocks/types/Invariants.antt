use Rattle.std.proofs.Common.{◌≡◌, ◌-◌, length, []}
use Rattle.source_tree.specs.SyntaxView.{type_declarations_view}
use Rattle.grammar.specs.Reading.{ahead}
use Rattle.grammar.specs.Types.{types}
use Rattle.file_reader.proofs.type_blocks.types.Given as goal

abbrev pub invariant-loop-turn : goal.invariant-loop-turn
invariant-loop-turn l = types (length l.toks) (length l.toks) [] (ahead l.toks l.fn.at) ≡ types (length l.toks) (l._turn-end - l._turn) (type_declarations_view l.found.items) (ahead l.toks l.at)
