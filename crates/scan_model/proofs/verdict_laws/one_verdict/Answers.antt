use Rattle.scan_model.proofs.OneEach.{one_verdict_is}
use Rattle.scan_model.proofs.verdict_laws.one_verdict.Goals as goal

pub returns : goal.returns
returns c = one_verdict_is
