use Rattle.std.proofs.Common.{◌≡◌, ◌-◌, List, length}
use Rattle.grammar.specs.Reading.{ahead}
use Rattle.candidates.specs.PairView.{old_of, new_of}
use Rattle.relation_lines.specs.Lines.{LineData}
use Rattle.relation_lines.specs.Reading.{file}
use Rattle.relation_file.specs.LinePass.{HasPassed, lines_on}
use Rattle.relation_file.proofs.line_pass.pass_lines.Given as goal

abbrev pub invariant-loop-turn : goal.invariant-loop-turn
invariant-loop-turn l = record {
  lines : List LineData;
  read : file (length l.toks) 64 (ahead l.toks 0) ≡ lines_on (length l.toks) 64 (l._turn-end - l._turn) lines (ahead l.toks l.at);
  passed : HasPassed (old_of l.pair) (new_of l.pair) l.end lines l.pass;
}
