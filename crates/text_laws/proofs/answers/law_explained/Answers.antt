use Rattle.text_laws.proofs.Said.{explained_says, explained_holds}
use Rattle.text_laws.proofs.answers.law_explained.Goals as goal

pub returns-clause-says : goal.returns-clause-says
returns-clause-says c = explained_says

pub returns-clause-holds : goal.returns-clause-holds
returns-clause-holds c = explained_holds
