use Rattle.judgement.proofs.Soundness.{shows_verdict}
use Rattle.judgement.proofs.laws.law_sound.Goals as goal

pub returns : goal.returns
returns goals c formula is means limit file answer judged = shows_verdict c formula is means limit file answer judged
