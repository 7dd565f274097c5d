use Rattle.freshness_laws.proofs.Parts.{no_held_part}
use Rattle.freshness_laws.proofs.laws.law_no_held_part.Goals as goal

pub returns : goal.returns
returns c = no_held_part
