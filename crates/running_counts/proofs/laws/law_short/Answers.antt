use Rattle.running_counts.proofs.StatedCounts.{short_alike}
use Rattle.running_counts.proofs.laws.law_short.Goals as goal

pub returns : goal.returns
returns c = short_alike
