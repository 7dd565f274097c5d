use Rattle.std.proofs.Common.{◌≡◌, drop}
use Rattle.finding_lines.specs.Form.{all_positive}
use Rattle.finding_lines.proofs.rows.are_positive.Given as goal

abbrev pub invariant-loop-number : goal.invariant-loop-number
invariant-loop-number l = all_positive (drop l.number-index l.numbers) ≡ all_positive l.numbers
