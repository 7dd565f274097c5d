use Rattle.text_laws.proofs.RowLemmas.{nothing_runs}
use Rattle.text_laws.proofs.rows.law_vacuous.Goals as goal

pub returns : goal.returns
returns c = nothing_runs
