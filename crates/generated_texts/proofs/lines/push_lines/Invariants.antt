use Rattle.std.proofs.Common.{◌≡◌, ◌++◌}
use Rattle.generated_texts.specs.Patterns.{lines}
use Rattle.generated_texts.proofs.lines.push_lines.Given as goal

abbrev pub invariant-loop-done : goal.invariant-loop-done
invariant-loop-done l = l.text.items ≡ l.initial.text.items ++ lines l.pattern l.done
