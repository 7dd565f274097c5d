use Rattle.verdict_laws.proofs.Walked.{unwalked_is_reach}
use Rattle.verdict_laws.proofs.reaches.law_unwalked_is_reach.Goals as goal

pub returns : goal.returns
returns c = unwalked_is_reach
