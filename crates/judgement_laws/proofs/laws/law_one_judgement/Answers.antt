use Rattle.judgement_laws.proofs.Judgements.{one_judgement_is}
use Rattle.judgement_laws.proofs.laws.law_one_judgement.Goals as goal

pub returns : goal.returns
returns c = one_judgement_is
