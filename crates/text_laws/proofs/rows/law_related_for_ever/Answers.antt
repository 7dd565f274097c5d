use Rattle.text_laws.proofs.RowLemmas.{related_for_ever}
use Rattle.text_laws.proofs.rows.law_related_for_ever.Goals as goal

pub returns : goal.returns
returns c = related_for_ever
