use Rattle.finding_commands.proofs.OneExplanation.{reports_once}
use Rattle.finding_commands.proofs.explain_laws.one_explain_report.Goals as goal

pub returns : goal.returns
returns c = reports_once
