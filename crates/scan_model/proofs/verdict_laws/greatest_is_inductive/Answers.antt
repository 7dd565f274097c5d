use Rattle.scan_model.proofs.KeptSets.{greatest_inductive}
use Rattle.scan_model.proofs.verdict_laws.greatest_is_inductive.Goals as goal

pub returns : goal.returns
returns c = greatest_inductive
