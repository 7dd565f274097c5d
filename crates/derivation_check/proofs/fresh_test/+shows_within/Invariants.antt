use Rattle.std.proofs.Common.{length}
use Rattle.derivation_check.proofs.fresh_test.+shows_within.Given as goal

abbrev pub decreases-shows_within : goal.decreases-shows_within
decreases-shows_within l = length l.part.now
