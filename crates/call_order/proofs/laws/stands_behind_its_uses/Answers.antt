use Rattle.call_order.proofs.Orders.{behind_uses}
use Rattle.call_order.proofs.laws.stands_behind_its_uses.Goals as goal

pub returns : goal.returns
returns c = behind_uses
