use Rattle.std.proofs.Common.{length}
use Rattle.finding_lines.proofs.RowLemmas.{ListSoFar}
use Rattle.finding_lines.proofs.rows.take_list.Given as goal

abbrev pub invariant-list : goal.invariant-list
invariant-list l = ListSoFar l.bytes l.numbers l.rest

abbrev pub decreases-list : goal.decreases-list
decreases-list l = length l.rest
