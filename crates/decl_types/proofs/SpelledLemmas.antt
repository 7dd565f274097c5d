-- What the declarations of types break, one after the other.
use Rattle.std.proofs.Common.{◌≡◌, List, [], ◌∷◌, refl}
use Rattle.source_tree.specs.Syntax.{TypeDeclarationData, FileData}
use Rattle.rules.specs.declared.outcome.Outcome.{Outcome}
use Rattle.rules.specs.Outcomes.{outcome_of, both}
use Rattle.typing.specs.Domains.{judged_specification}
use Rattle.typing.specs.Outcomes.{types_outcome}
use Rattle.decl_types.specs.Spelled.{declared_outcomes, joined}

pub joined-is : (f : FileData) (o : Outcome) (ds : List TypeDeclarationData) → joined o (declared_outcomes f ds) ≡ types_outcome f o ds
joined-is f o [] = refl
joined-is f o (d ∷ ds) = joined-is f (both o (outcome_of (judged_specification f d.name d.specification))) ds
