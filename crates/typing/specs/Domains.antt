-- Domains: which values a type allows (IEC 61131-3, 2.3.3), and the rules that types break.
use Rattle.std.specs.Prelude.{ℕ, List, [], ◌∷◌, length, nat_lt, Bool, true, false, Option, Some, None, if◌then◌else◌, pos, int_le}
use Rattle.plc_types.specs.declared.elementary.Elementary.{Elementary as ElementaryType}
use Rattle.plc_types.specs.declared.elementary.Elementary.TheVariants as types
use Rattle.plc_types.specs.declared.data_type.DataType.TheVariants.{Elementary, Enumeration, Unknown}
use Rattle.rules.specs.declared.rule.Rule.TheVariants.{OperandType, OutsideType, TooManyValues}
use Rattle.plc_types.specs.declared.range.Range.{Range}
use Rattle.plc_types.specs.DataTypes.{is_same_type}
use Rattle.plc_types.specs.Types.{is_integer, range_of}
use Rattle.source_tree.specs.Syntax.{Named, Tree, BoundsData, TypeData, of_elementary, of_subrange, of_name, SpecificationData, of_type, of_values, TypeDeclarationData, FileData}
use Rattle.naming.specs.declared.standing.Standing.{Standing}
use Rattle.naming.specs.declared.standing.Standing.TheVariants as standings
use Rattle.naming.specs.FileScope.{standing}
use Rattle.naming.specs.Types.{specification_at, end_of, end_specification}
use Rattle.typing.specs.declared.scope.Place.TheVariants as places
use Rattle.typing.specs.declared.scope.Meaning.{Meaning}
use Rattle.typing.specs.Typing.{Reference, Scope, without_calls, by_path, by_value, type_of, place_of}
use Rattle.rules.specs.Judgements.{Judgement, ok, suppressed, and, breaks, require}
use Rattle.typing.specs.Judged.{judged}
use Rattle.typing.specs.Typed.{constant_of}
use Rattle.typing.specs.declared.domain.Domain.{Domain}

-- M3: an enumeration has at most 256 values, the first and the others
abbrev pub has_few : List Named → Bool
has_few others = nat_lt (length others) 256

-- a value of the enumeration of a number
abbrev pub value_meaning : ℕ → ℕ → Bool → Meaning
value_meaning t k whole =
    record { place = places.Value (pos k); kind = Enumeration t; range = record { low = pos k; high = pos k }; whole = whole; assignable = false; control = false }

abbrev pub is_few : Option SpecificationData → Bool
is_few None = false
is_few (Some (of_type k)) = false
is_few (Some (of_values at first others)) = has_few others

-- what a name of the file's scope stands for as a value
abbrev pub value_at : FileData → Option Standing → Option Meaning
value_at f None = None
value_at f (Some (standings.Type t)) = None
value_at f (Some (standings.Value t k)) = Some (value_meaning t k (is_few (specification_at f t)))
value_at f (Some (standings.Pou p)) = None

-- constants name nothing but values of enumerations
abbrev pub value_means : FileData → Reference → Option Meaning
value_means f (by_path p) = value_at f (standing f p.first.text)
value_means f (by_value n) = value_at f (standing f n.text)

abbrev pub values_scope : FileData → Scope
values_scope f = without_calls (value_means f)

abbrev pub bounds_of : FileData → ElementaryType → BoundsData → Range
bounds_of f k b = record { low = constant_of (values_scope f) (Elementary k) b.low; high = constant_of (values_scope f) (Elementary k) b.high }

-- a bound of a subrange is a value of the type that it limits
abbrev pub judged_bound_of : FileData → ElementaryType → Tree → Judgement
judged_bound_of f k e =
    require (judged (values_scope f) (Some (Elementary k)) e) (is_same_type (type_of (values_scope f) (Some (Elementary k)) e) (Elementary k)) OperandType (place_of e)

-- a subrange is one of an integer type, and its bounds are in order
abbrev pub judged_subrange : FileData → ElementaryType → ℕ → BoundsData → Judgement
judged_subrange f k at b =
    require
    (require (and (judged_bound_of f k b.low) (judged_bound_of f k b.high)) (is_integer k) OperandType at)
    (int_le (bounds_of f k b).low (bounds_of f k b).high) OutsideType (place_of b.low)

-- what leads to no type, or to one whose declaration breaks a rule
abbrev pub no_domain : Domain
no_domain = record { kind = Unknown; range = range_of types.Bool; is_subrange = false; start = pos 0; whole = false }

-- a variable begins at 0, of a subrange at its lower bound, and of an enumeration at its first value
abbrev pub elementary_domain : ElementaryType → Domain
elementary_domain k = record { kind = Elementary k; range = range_of k; is_subrange = false; start = pos 0; whole = true }

abbrev pub subrange_domain : FileData → ElementaryType → ℕ → BoundsData → Domain
subrange_domain f k at b =
    if (judged_subrange f k at b).whole then record { kind = Elementary k; range = bounds_of f k b; is_subrange = true; start = (bounds_of f k b).low; whole = true } else no_domain

abbrev pub enumeration_domain : ℕ → List Named → Domain
enumeration_domain t others =
    if has_few others then record { kind = Enumeration t; range = record { low = pos 0; high = pos (length others) }; is_subrange = false; start = pos 0; whole = true } else no_domain

-- the domain of the type of a number, at the end of its way
abbrev pub end_domain : FileData → ℕ → Option SpecificationData → Domain
end_domain f t None = no_domain
end_domain f t (Some (of_values at first others)) = enumeration_domain t others
end_domain f t (Some (of_type (of_elementary k at))) = elementary_domain k
end_domain f t (Some (of_type (of_subrange k at b))) = subrange_domain f k at b
end_domain f t (Some (of_type (of_name n))) = no_domain

abbrev pub named_domain : FileData → Option Standing → Domain
named_domain f None = no_domain
named_domain f (Some (standings.Type t)) = end_domain f (end_of f t) (end_specification f t)
named_domain f (Some (standings.Value t k)) = no_domain
named_domain f (Some (standings.Pou p)) = no_domain

abbrev pub domain_of : FileData → TypeData → Domain
domain_of f (of_elementary k at) = elementary_domain k
domain_of f (of_subrange k at b) = subrange_domain f k at b
domain_of f (of_name n) = named_domain f (standing f n.text)

-- what a type breaks where it is spelled; a type by name is whole where its declaration is
abbrev pub judged_type : FileData → TypeData → Judgement
judged_type f (of_elementary k at) = ok
judged_type f (of_subrange k at b) = judged_subrange f k at b
judged_type f (of_name n) = if (named_domain f (standing f n.text)).whole then ok else suppressed

abbrev pub judged_specification : FileData → Named → SpecificationData → Judgement
judged_specification f n (of_type t) = judged_type f t
judged_specification f n (of_values at first others) = if has_few others then ok else breaks TooManyValues n.at

abbrev pub judged_types : FileData → List TypeDeclarationData → Judgement
judged_types f [] = ok
judged_types f (d ∷ ds) = and (judged_specification f d.name d.specification) (judged_types f ds)
