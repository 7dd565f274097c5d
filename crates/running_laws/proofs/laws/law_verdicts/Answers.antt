use Rattle.running_laws.proofs.StatedVerdicts.{verdicts_same}
use Rattle.running_laws.proofs.laws.law_verdicts.Goals as goal

pub returns : goal.returns
returns c = verdicts_same
