use Rattle.clause_core.proofs.Sound.{clause_true-accepted}
use Rattle.clause_core.proofs.step.law_accepted.Goals as goal

pub returns : goal.returns
returns c = λ variables held s e v f. clause_true-accepted variables held s.clause s.hints e v f
