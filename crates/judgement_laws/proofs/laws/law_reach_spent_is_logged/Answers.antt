use Rattle.judgement_laws.proofs.SpentLemmas.{reach_spent_is_logged}
use Rattle.judgement_laws.proofs.laws.law_reach_spent_is_logged.Goals as goal

pub returns : goal.returns
returns c = reach_spent_is_logged
