use Rattle.std.proofs.Common.{◌≡◌, map, take, pos}
use Rattle.finding_lines.specs.Numbers.{AreNumbers}
use Rattle.finding_search.proofs.numbers.hint_numbers.Given as goal

abbrev pub invariant-loop-hint : goal.invariant-loop-hint
invariant-loop-hint l = record {
  same : l.numbers ≡ map pos (take l.hint-index l.hints);
  fit : AreNumbers l.numbers;
}
