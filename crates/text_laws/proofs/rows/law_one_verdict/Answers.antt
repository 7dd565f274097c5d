use Rattle.text_laws.proofs.RowLemmas.{one_verdict}
use Rattle.text_laws.proofs.rows.law_one_verdict.Goals as goal

pub returns : goal.returns
returns c = one_verdict
