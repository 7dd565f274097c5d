use Rattle.flat_rule_laws.proofs.KeptRules.{flat_program-keeps_rules}
use Rattle.typed_flat_laws.proofs.FlatPrograms.{flat_program-typed}
use Rattle.typed_flat_laws.proofs.WellTypedPrograms.{typed-well_typed}
use Rattle.typed_flat_laws.proofs.laws.law_typed_flat.Goals as goal

pub returns : goal.returns
returns c = λ p is typed. flat_program-typed p typed (flat_program-keeps_rules p is (typed-well_typed p typed))
