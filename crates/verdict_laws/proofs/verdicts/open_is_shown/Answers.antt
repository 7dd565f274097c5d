use Rattle.verdict_laws.proofs.Shown.{open_is_shown}
use Rattle.verdict_laws.proofs.verdicts.open_is_shown.Goals as goal

pub returns : goal.returns
returns c = open_is_shown
