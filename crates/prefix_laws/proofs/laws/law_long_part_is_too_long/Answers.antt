use Rattle.prefix_laws.proofs.PartLemmas.{long_part_is_too_long}
use Rattle.prefix_laws.proofs.laws.law_long_part_is_too_long.Goals as goal

pub returns : goal.returns
returns c = long_part_is_too_long
