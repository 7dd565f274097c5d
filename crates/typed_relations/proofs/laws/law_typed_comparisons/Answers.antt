use Rattle.typed_relations.proofs.Readings.{read_typed}
use Rattle.typed_relations.proofs.laws.law_typed_comparisons.Goals as goal

pub returns : goal.returns
returns c = read_typed
