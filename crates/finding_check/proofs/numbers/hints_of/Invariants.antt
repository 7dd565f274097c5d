use Rattle.std.proofs.Common.{◌≡◌, take}
use Rattle.finding_check.specs.Numbers.{short_hints}
use Rattle.finding_check.proofs.numbers.hints_of.Given as goal

abbrev pub invariant-loop-number : goal.invariant-loop-number
invariant-loop-number l = l.hints ≡ short_hints (take l.number-index l.numbers)
