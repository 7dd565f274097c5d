use Rattle.std.proofs.Common.{◌≡◌, ◌++◌, drop}
use Rattle.generated_texts.specs.Patterns.{filled}
use Rattle.generated_texts.proofs.lines.push_filled.Given as goal

abbrev pub invariant-loop-byte : goal.invariant-loop-byte
invariant-loop-byte l = l.text.items ++ filled (drop l.byte-index l.byte-items) l.number ≡ l.initial.text.items ++ filled l.byte-items l.number
