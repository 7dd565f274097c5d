use Rattle.std.proofs.Common.{◌≡◌, pos, drop}
use Rattle.finding_lines.specs.Form.{rises_above}
use Rattle.finding_lines.proofs.rows.rise.Given as goal

abbrev pub invariant-loop-number : goal.invariant-loop-number
invariant-loop-number l = rises_above l.last (drop l.number-index l.numbers) ≡ rises_above (pos 0) l.numbers
