use Rattle.std.proofs.Common.{◌≡◌, ◌-◌, length, []}
use Rattle.grammar.specs.Reading.{ahead}
use Rattle.relation_lines.specs.View.{lines_view}
use Rattle.relation_lines.specs.Reading.{lines}
use Rattle.relation_lines.proofs.parse.lines.Given as goal

abbrev pub invariant-loop-turn : goal.invariant-loop-turn
invariant-loop-turn l = lines (length l.toks) 64 (length l.toks) [] (ahead l.toks l.fn.at) ≡ lines (length l.toks) 64 (l._turn-end - l._turn) (lines_view l.found.items) (ahead l.toks l.at)
