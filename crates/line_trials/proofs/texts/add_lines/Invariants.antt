use Rattle.std.proofs.Common.{◌≡◌, ◌++◌, drop}
use Rattle.line_trials.specs.Lines.{lines_view, lines_text}
use Rattle.line_trials.proofs.texts.add_lines.Given as goal

abbrev pub invariant-loop-line : goal.invariant-loop-line
invariant-loop-line l = l.text.items ++ lines_text (lines_view (drop l.line-index l.lines)) ≡ l.initial.text.items ++ lines_text (lines_view l.lines)
