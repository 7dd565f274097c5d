use Rattle.text_laws.proofs.RowLemmas.{different_is_least}
use Rattle.text_laws.proofs.rows.law_different.Goals as goal

pub returns : goal.returns
returns c = different_is_least
