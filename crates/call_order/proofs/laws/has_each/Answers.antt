use Rattle.call_order.proofs.Orders.{each_in}
use Rattle.call_order.proofs.laws.has_each.Goals as goal

pub returns : goal.returns
returns c = each_in
