use Rattle.verdict_laws.proofs.Shown.{none_below}
use Rattle.verdict_laws.proofs.breaks.no_break_below.Goals as goal

pub returns : goal.returns
returns c = none_below
