use Rattle.call_order.proofs.Orders.{none_reaches}
use Rattle.call_order.proofs.laws.none_reaches_itself.Goals as goal

pub returns : goal.returns
returns c = none_reaches
