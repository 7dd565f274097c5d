use Rattle.verdict_laws.proofs.Covering.{left_covers_is}
use Rattle.verdict_laws.proofs.sets.set_left_after_a_row_covers.Goals as goal

pub returns : goal.returns
returns c = left_covers_is
