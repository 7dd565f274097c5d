use Rattle.std.proofs.Common.{length}
use Rattle.trace_rows.proofs.ReadLemmas.{RowsSoFar}
use Rattle.trace_rows.proofs.read.read_rows.Given as goal

abbrev pub invariant-loop-reader : goal.invariant-loop-reader
invariant-loop-reader l = RowsSoFar l.width l.count l.initial.reader l.reader l.numbers.items

abbrev pub decreases-loop-reader : goal.decreases-loop-reader
decreases-loop-reader l = length l.reader
