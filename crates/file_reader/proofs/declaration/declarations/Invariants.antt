use Rattle.std.proofs.Common.{◌≡◌, ◌-◌, length, []}
use Rattle.source_tree.specs.SyntaxView.{declarations_view}
use Rattle.grammar.specs.Reading.{ahead}
use Rattle.grammar.specs.Declarations.{declarations}
use Rattle.file_reader.proofs.declaration.declarations.Given as goal

abbrev pub invariant-loop-turn : goal.invariant-loop-turn
invariant-loop-turn l = declarations (length l.toks) (length l.toks) [] (ahead l.toks l.fn.at) ≡ declarations (length l.toks) (l._turn-end - l._turn) (declarations_view l.found.items) (ahead l.toks l.at)
