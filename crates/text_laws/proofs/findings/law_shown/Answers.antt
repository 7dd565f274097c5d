use Rattle.text_laws.proofs.Conclusions.{shown_says}
use Rattle.text_laws.proofs.findings.law_shown.Goals as goal

pub returns : goal.returns
returns c = shown_says
