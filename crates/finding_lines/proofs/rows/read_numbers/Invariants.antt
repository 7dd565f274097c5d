use Rattle.std.proofs.Common.{length}
use Rattle.finding_lines.proofs.RowLemmas.{RowSoFar}
use Rattle.finding_lines.proofs.rows.read_numbers.Given as goal

abbrev pub invariant-row : goal.invariant-row
invariant-row l = RowSoFar l.bytes l.numbers l.rest

abbrev pub decreases-row : goal.decreases-row
decreases-row l = length l.rest
