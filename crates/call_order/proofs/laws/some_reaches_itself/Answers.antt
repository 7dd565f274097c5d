use Rattle.call_order.proofs.Circles.{some_reaches}
use Rattle.call_order.proofs.laws.some_reaches_itself.Goals as goal

pub returns : goal.returns
returns c = some_reaches
