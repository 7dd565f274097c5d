use Rattle.text_laws.proofs.Conclusions.{conclusion_is_verdict}
use Rattle.text_laws.proofs.findings.law_conclusion.Goals as goal

pub returns : goal.returns
returns c = conclusion_is_verdict
