use Rattle.std.proofs.Common.{◌≡◌, ◌-◌, length, []}
use Rattle.source_tree.specs.SyntaxView.{parts_view}
use Rattle.grammar.specs.Reading.{ahead}
use Rattle.grammar.specs.Charts.{parts}
use Rattle.file_reader.proofs.charts.parts.Given as goal

abbrev pub invariant-loop-turn : goal.invariant-loop-turn
invariant-loop-turn l = parts (length l.toks) 64 (length l.toks) [] (ahead l.toks l.fn.at) ≡ parts (length l.toks) 64 (l._turn-end - l._turn) (parts_view l.found.items) (ahead l.toks l.at)
