use Rattle.verdict_laws.proofs.Shown.{related_is_shown}
use Rattle.verdict_laws.proofs.verdicts.related_is_shown.Goals as goal

pub returns : goal.returns
returns c = related_is_shown
