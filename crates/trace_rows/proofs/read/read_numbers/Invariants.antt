use Rattle.std.proofs.Common.{length}
use Rattle.trace_rows.proofs.ReadLemmas.{NumbersSoFar}
use Rattle.trace_rows.proofs.read.read_numbers.Given as goal

abbrev pub invariant-loop-reader : goal.invariant-loop-reader
invariant-loop-reader l = NumbersSoFar l.initial.reader l.reader l.initial.numbers.items l.numbers.items

abbrev pub decreases-loop-reader : goal.decreases-loop-reader
decreases-loop-reader l = length l.reader
