use Rattle.call_order.proofs.Ways.{leads_reaches}
use Rattle.call_order.proofs.laws.leads_where_it_reaches.Goals as goal

pub returns : goal.returns
returns c = leads_reaches
