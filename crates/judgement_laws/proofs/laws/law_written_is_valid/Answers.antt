use Rattle.judgement_laws.proofs.Judgements.{written_is_valid}
use Rattle.judgement_laws.proofs.laws.law_written_is_valid.Goals as goal

pub returns : goal.returns
returns c = written_is_valid
