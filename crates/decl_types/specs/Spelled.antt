-- What the declarations of types break.
use Rattle.std.specs.Prelude.{ℕ, List, [], ◌∷◌, map, if◌then◌else◌}
use Rattle.rules.specs.declared.rule.Rule.TheVariants.{TooManyValues}
use Rattle.rules.specs.declared.outcome.Outcome.{Outcome}
use Rattle.rules.specs.Judgements.{ok, breaks}
use Rattle.rules.specs.Outcomes.{outcome_of, both}
use Rattle.source_tree.specs.Syntax.{Named as NamedData, of_name, TypeDeclarationData, FileData}
use Rattle.source_tree.specs.SyntaxView.{name_view}
use Rattle.typing.specs.Domains.{has_few, judged_type, judged_specification}
use Rattle.decl_types.specs.declared.own_domains.Spelled.{Spelled}
use Rattle.decl_types.specs.declared.own_domains.Spelled.TheVariants.{Judged, Named}

-- what was judged, or what a type by name breaks
abbrev pub spelled_outcome : FileData → Spelled → Outcome
spelled_outcome f (Judged o) = o
spelled_outcome f (Named n) = outcome_of (judged_type f (of_name (name_view n.now)))

abbrev pub values_outcome : ℕ → List NamedData → Outcome
values_outcome at others = outcome_of (if has_few others then ok else breaks TooManyValues at)

abbrev pub declared_outcomes : FileData → List TypeDeclarationData → List Outcome
declared_outcomes f ds = map (λ d. outcome_of (judged_specification f d.name d.specification)) ds

-- what was judged one after the other, behind what was judged so far
abbrev pub joined : Outcome → List Outcome → Outcome
joined o [] = o
joined o (p ∷ ps) = joined (both o p) ps
