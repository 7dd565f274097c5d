use Rattle.prefix_laws.proofs.EndStands.{valid_has_end}
use Rattle.prefix_laws.proofs.laws.law_valid_has_end.Goals as goal

pub returns : goal.returns
returns c = valid_has_end
