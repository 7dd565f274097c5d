use Rattle.verdict_laws.proofs.Walked.{whole_is_reach}
use Rattle.verdict_laws.proofs.reaches.law_whole_is_reach.Goals as goal

pub returns : goal.returns
returns c = whole_is_reach
