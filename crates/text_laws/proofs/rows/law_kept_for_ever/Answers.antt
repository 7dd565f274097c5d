use Rattle.text_laws.proofs.RowLemmas.{kept_for_ever}
use Rattle.text_laws.proofs.rows.law_kept_for_ever.Goals as goal

pub returns : goal.returns
returns c = kept_for_ever
