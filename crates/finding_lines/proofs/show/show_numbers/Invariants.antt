use Rattle.std.proofs.Common.{◌≡◌, ◌++◌, drop, string_bytes}
use Rattle.finding_lines.specs.Spelling.{spaced_all}
use Rattle.finding_lines.proofs.show.show_numbers.Given as goal

abbrev pub invariant-loop-number : goal.invariant-loop-number
invariant-loop-number l = string_bytes l.text ++ spaced_all (drop l.number-index l.numbers) ≡ string_bytes l.initial.text ++ spaced_all l.numbers
