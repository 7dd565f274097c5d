use Rattle.text_laws.proofs.Conclusions.{finding_is_shown}
use Rattle.text_laws.proofs.findings.law_finding.Goals as goal

pub returns : goal.returns
returns c = finding_is_shown
