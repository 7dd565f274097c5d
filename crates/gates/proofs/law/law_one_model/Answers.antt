use Rattle.gates.proofs.OneModel.{ExtendsOnce_ordered}
use Rattle.gates.proofs.law.law_one_model.Goals as goal

pub returns : goal.returns
returns c = ExtendsOnce_ordered
