use Rattle.finding_commands.proofs.OneCheck.{reports_once}
use Rattle.finding_commands.proofs.check_laws.one_check_report.Goals as goal

pub returns : goal.returns
returns c = reports_once
