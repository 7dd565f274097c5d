use Rattle.text_laws.proofs.Listed.{listed_is_greatest, listed_holds_for_ever}
use Rattle.text_laws.proofs.findings.law_listed.Goals as goal

pub returns-clause-greatest : goal.returns-clause-greatest
returns-clause-greatest c = listed_is_greatest

pub returns-clause-holds : goal.returns-clause-holds
returns-clause-holds c = listed_holds_for_ever
