use Rattle.call_order.proofs.Orders.{only_once}
use Rattle.call_order.proofs.laws.stands_once.Goals as goal

pub returns : goal.returns
returns c = only_once
