use Rattle.clause_core.proofs.Refuting.{no_solution}
use Rattle.clause_core.proofs.step.law_refutes.Goals as goal

pub returns : goal.returns
returns c = λ variables formula log r v. no_solution variables formula log r v
