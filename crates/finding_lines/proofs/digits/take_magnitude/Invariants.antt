use Rattle.std.proofs.Common.{length}
use Rattle.finding_lines.proofs.DigitLemmas.{DigitsSoFar}
use Rattle.finding_lines.proofs.digits.take_magnitude.Given as goal

abbrev pub invariant-digits : goal.invariant-digits
invariant-digits l = DigitsSoFar l.bytes l.number l.rest

abbrev pub decreases-digits : goal.decreases-digits
decreases-digits l = length l.rest
