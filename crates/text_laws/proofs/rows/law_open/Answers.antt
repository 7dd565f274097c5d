use Rattle.text_laws.proofs.RowLemmas.{open_is_related_so_far}
use Rattle.text_laws.proofs.rows.law_open.Goals as goal

pub returns : goal.returns
returns c = open_is_related_so_far
