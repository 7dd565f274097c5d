use Rattle.verify_command.proofs.Once.{refusal_once}
use Rattle.verify_command.proofs.laws.one_refusal.Goals as goal

pub returns : goal.returns
returns c = refusal_once
