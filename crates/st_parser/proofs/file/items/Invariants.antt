use Rattle.std.proofs.Common.{◌≡◌, ◌-◌, length, []}
use Rattle.source_tree.specs.SyntaxView.{items_view}
use Rattle.grammar.specs.Reading.{ahead}
use Rattle.grammar.specs.Files.{items}
use Rattle.st_parser.proofs.file.items.Given as goal

abbrev pub invariant-loop-turn : goal.invariant-loop-turn
invariant-loop-turn l = items (length l.toks) 64 (length l.toks) [] (ahead l.toks l.fn.at) ≡ items (length l.toks) 64 (l._turn-end - l._turn) (items_view l.found.items) (ahead l.toks l.at)
