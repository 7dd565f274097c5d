use Rattle.scan_model.proofs.KeptSets.{failing_not_kept}
use Rattle.scan_model.proofs.verdict_laws.failing_is_not_kept.Goals as goal

pub returns : goal.returns
returns c = failing_not_kept
