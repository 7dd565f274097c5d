use Rattle.prefix_laws.proofs.EndPasses.{part_with_end_is_valid}
use Rattle.prefix_laws.proofs.laws.law_part_with_end_is_valid.Goals as goal

pub returns : goal.returns
returns c = part_with_end_is_valid
