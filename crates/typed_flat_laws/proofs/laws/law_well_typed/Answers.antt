use Rattle.typed_flat_laws.proofs.WellTypedPrograms.{typed-well_typed}
use Rattle.typed_flat_laws.proofs.laws.law_well_typed.Goals as goal

pub returns : goal.returns
returns c = typed-well_typed
