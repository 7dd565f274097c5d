use Rattle.std.proofs.Common.{◌≡◌, drop}
use Rattle.finding_lines.specs.Form.{rises_from}
use Rattle.finding_lines.proofs.rows.rises.Given as goal

abbrev pub invariant-loop-literal : goal.invariant-loop-literal
invariant-loop-literal l = rises_from l.last (drop l.literal-index l.literals) ≡ rises_from 0 l.literals
