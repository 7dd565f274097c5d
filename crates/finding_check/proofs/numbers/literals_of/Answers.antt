use Rattle.std.proofs.Common.{arith}
use Rattle.finding_check.proofs.HintLemmas.{rises-too_large}
use Rattle.finding_check.proofs.numbers.literals_of.Goals as goal

pub returns-in_default : goal.returns-in_default
returns-in_default c = rises-too_large c.args.variables c.args.numbers.now c.loop-place.place (omega arith) c.in_default.ensures
