use Rattle.verify_command.proofs.Once.{limit_once}
use Rattle.verify_command.proofs.laws.one_limit.Goals as goal

pub returns : goal.returns
returns c = limit_once
