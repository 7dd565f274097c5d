use Rattle.text_laws.proofs.Conclusions.{spent_log, reach_spent_log}
use Rattle.text_laws.proofs.findings.law_spent.Goals as goal

pub returns-clause-verdict : goal.returns-clause-verdict
returns-clause-verdict c = spent_log

pub returns-clause-reach : goal.returns-clause-reach
returns-clause-reach c = reach_spent_log
