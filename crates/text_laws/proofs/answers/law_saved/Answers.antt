use Rattle.text_laws.proofs.Said.{saved_says, related_status}
use Rattle.text_laws.proofs.answers.law_saved.Goals as goal

pub returns-clause-says : goal.returns-clause-says
returns-clause-says c = saved_says

pub returns-clause-related : goal.returns-clause-related
returns-clause-related c = related_status
