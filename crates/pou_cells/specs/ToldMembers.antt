-- The variables of POUs, by what is told of their declarations.
use Rattle.std.specs.Prelude.{ℕ, List, [], ◌∷◌, map, if◌then◌else◌}
use Rattle.source_tree.specs.Syntax.{PouTypeData, FileData}
use Rattle.naming.specs.FileScope.{pous_of}
use Rattle.naming.specs.Scopes.{variables_in_pou}
use Rattle.typing.specs.declared.scope.Place.TheVariants as places
use Rattle.typing.specs.declared.scope.Meaning.{Meaning}
use Rattle.typing.specs.declared.next.Next.{Next}
use Rattle.typing.specs.declared.member.Member.{Member}
use Rattle.typing.specs.Places.{has_cell}
use Rattle.typing.specs.Members.{may_be_assigned, may_control}
use Rattle.decl_types.specs.Told.{ToldData, told_in}
use Rattle.pou_cells.specs.ToldPlaces.{told_first_places, told_first_place, told_places_behind}

-- what is told of the variables of all POUs of a file
abbrev pub all_told : FileData → List (List ToldData)
all_told f = map (λ p. told_in f (variables_in_pou p)) (pous_of f)

abbrev pub told_meaning : ℕ → ToldData → Meaning
told_meaning cell t = record {
  place = if has_cell t.role then places.Cell cell else places.Value t.initial;
  kind = t.domain.kind;
  range = t.domain.range;
  whole = t.judged.whole;
  assignable = may_be_assigned t.role;
  control = may_control t.role;
}

abbrev pub told_member : ℕ → ToldData → Member
told_member cell t = record { cell = cell; meaning = told_meaning cell t; role = t.role; block = t.block }

-- the variables of a POU, from a place on
abbrev pub told_members_from : List ℕ → Next → List ToldData → List Member
told_members_from sizes next [] = []
told_members_from sizes next (t ∷ ts) = told_member (told_first_place next t) t ∷ told_members_from sizes (told_places_behind sizes next t) ts

abbrev pub told_members : List ℕ → PouTypeData → List ToldData → List Member
told_members sizes pou_type ts = told_members_from sizes (told_first_places sizes pou_type ts) ts
