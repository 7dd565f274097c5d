use Rattle.query_formula_laws.proofs.TypedCandidates.{candidates_are_typed}
use Rattle.query_formula_laws.proofs.laws.law_candidates.Goals as law

pub returns : law.returns
returns g = candidates_are_typed
