use Rattle.text_laws.proofs.Conclusions.{reach_says}
use Rattle.text_laws.proofs.findings.law_reach.Goals as goal

pub returns : goal.returns
returns c = reach_says
