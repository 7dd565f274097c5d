use Rattle.scan_model.proofs.KeptSets.{holding_inductive}
use Rattle.scan_model.proofs.verdict_laws.holding_in_range_is_inductive.Goals as goal

pub returns : goal.returns
returns c = holding_inductive
