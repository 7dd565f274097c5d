use Rattle.call_order.proofs.Orders.{below_length}
use Rattle.call_order.proofs.laws.is_below_length.Goals as goal

pub returns : goal.returns
returns c = below_length
