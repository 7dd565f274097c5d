use Rattle.std.proofs.Common.{◌≡◌, map, take}
use Rattle.finding_lines.specs.Numbers.{AreNumbers}
use Rattle.finding_search.specs.Shown.{number_of}
use Rattle.finding_search.proofs.numbers.literal_numbers.Given as goal

abbrev pub invariant-loop-literal : goal.invariant-loop-literal
invariant-loop-literal l = record {
  same : l.numbers ≡ map number_of (take l.literal-index l.literals);
  fit : AreNumbers l.numbers;
}
