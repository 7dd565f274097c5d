use Rattle.judgement_laws.proofs.SpentLemmas.{spent_is_logged}
use Rattle.judgement_laws.proofs.laws.law_spent_is_logged.Goals as goal

pub returns : goal.returns
returns c = spent_is_logged
