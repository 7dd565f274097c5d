use Rattle.running_laws.proofs.StatedVerdicts.{replays_same}
use Rattle.running_laws.proofs.laws.law_replays.Goals as goal

pub returns : goal.returns
returns c = replays_same
