use Rattle.clause_types.proofs.SideLemmas.{after_front}
use Rattle.clause_types.proofs.sides.after.Goals as goal

pub returns : goal.returns
returns c = after_front c.args.text.now c.args.front.now c.strip_prefix.result c.strip_prefix.ensures.cases
