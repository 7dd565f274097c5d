use Rattle.verdict_laws.proofs.Shown.{different_is_shown}
use Rattle.verdict_laws.proofs.verdicts.different_is_shown.Goals as goal

pub returns : goal.returns
returns c = different_is_shown
