-- Places take what a type allows, and a variable begins in its range.
use Rattle.std.proofs.Common.{◌≡◌, ℕ, ℤ, pos, Bool, true, false, List, length, Option, Some, None, refl, sym, ap, subst}
use Rattle.std.specs.Prelude.{int_le}
use Rattle.std.proofs.lemmas.Bool.{false≢true}
use Rattle.plc_types.specs.declared.elementary.Elementary.{Elementary}
use Rattle.plc_types.specs.declared.elementary.Elementary.TheVariants as types
use Rattle.plc_types.specs.declared.data_type.DataType.{DataType}
use Rattle.plc_types.specs.declared.data_type.DataType.TheVariants as kinds
use Rattle.plc_types.specs.declared.range.Range.{Range}
use Rattle.plc_types.specs.DataTypes.{is_same_type}
use Rattle.plc_types.specs.Types.{is_integer, range_of, in_range}
use Rattle.plc_types.proofs.InRange.{covers_self, covers_both, low_in}
use Rattle.plc_types.proofs.TypeRanges.{zero_in, first_in, few_in}
use Rattle.rules.specs.declared.rule.Rule.TheVariants.{ValueType, OutsideType, OperandType}
use Rattle.rules.specs.Judgements.{and, require}
use Rattle.source_tree.specs.Syntax.{Named, Tree, BoundsData, TypeData, of_elementary, of_subrange, of_name, SpecificationData, of_type, of_values, FileData}
use Rattle.naming.specs.declared.standing.Standing.{Standing}
use Rattle.naming.specs.declared.standing.Standing.TheVariants as standings
use Rattle.naming.specs.FileScope.{standing}
use Rattle.naming.specs.Types.{end_of, specification_at, end_specification}
use Rattle.naming.specs.Scopes.{Variable}
use Rattle.meaning.specs.StaysIn.{covers}
use Rattle.typing.specs.declared.domain.Domain.{Domain}
use Rattle.typing.specs.Typing.{type_of, place_of, is_unknown}
use Rattle.typing.specs.Judged.{judged}
use Rattle.typing.specs.Typed.{constant_of}
use Rattle.typing.specs.Domains.{has_few, values_scope, bounds_of, judged_bound_of, judged_subrange, no_domain, elementary_domain, subrange_domain, enumeration_domain, end_domain, named_domain, domain_of}
use Rattle.typing.specs.Variables.{domain_if, domain_of_variable, judged_initial, given_value, start_of, initial_of}
use Rattle.typed_scopes.specs.Types.{range_of_type, IsKnown, IsPlaceOf}
use Rattle.typed_scopes.proofs.Wholes.{whole_require, whole_and}
use Rattle.typed_cells.specs.Places.{last_value, last}
use Rattle.typed_cells.specs.Variables.{place_for}
use Rattle.typed_cells.proofs.Constants.{constant_in}

-- an enumeration is no subrange
abbrev pub IsOpen : DataType → Bool → Type 0
IsOpen (kinds.Elementary k) is_subrange = Unit {0}
IsOpen (kinds.Enumeration n) is_subrange = is_subrange ≡ false
IsOpen kinds.Unknown is_subrange = Unit {0}

pub record IsSoundDomain (f : FileData) (d : Domain) : Type 0 where
  pub place : is_unknown d.kind ≡ false → IsPlaceOf (last f) d.kind (place_for d)
  pub start : in_range d.start d.range ≡ true
  pub known : d.whole ≡ true → is_unknown d.kind ≡ false
  pub whole : IsOpen d.kind d.is_subrange

true≢false : {P : Type 0} → true ≡ false → P
true≢false h = absurd (let e : ⊥ = cc in e)

none_sound : (f : FileData) → IsSoundDomain f no_domain
none_sound f = record { place = λ known. true≢false known; start = zero_in types.Bool; known = λ whole. absurd (false≢true whole); whole = tt }

elementary_sound : (f : FileData) (k : Elementary) → IsSoundDomain f (elementary_domain k)
elementary_sound f k = record { place = λ known. record { known = tt; kind = refl; within = covers_self (range_of k); whole = λ all. refl }; start = zero_in k; known = λ whole. refl; whole = tt }

-- ---- subranges

bound_in : (f : FileData) (k : Elementary) (e : Tree) → (judged_bound_of f k e).whole ≡ true → in_range (constant_of (values_scope f) (kinds.Elementary k) e) (range_of k) ≡ true
bound_in f k e whole =
    constant_in f k e
    (whole_require (judged (values_scope f) (Some (kinds.Elementary k)) e) (is_same_type (type_of (values_scope f) (Some (kinds.Elementary k)) e) (kinds.Elementary k)) OperandType (place_of e) whole).1

subrange_by : (c : Bool) (f : FileData) (k : Elementary) (at : ℕ) (b : BoundsData) → (judged_subrange f k at b).whole ≡ c → IsSoundDomain f (subrange_domain f k at b)
subrange_by true f k at b is =
    let parts = and (judged_bound_of f k b.low) (judged_bound_of f k b.high) in
    let r = bounds_of f k b in
    let ends = whole_require (require parts (is_integer k) OperandType at) (int_le r.low r.high) OutsideType (place_of b.low) is in
    let each = whole_and (judged_bound_of f k b.low) (judged_bound_of f k b.high) (whole_require parts (is_integer k) OperandType at ends.0).0 in
    let low = bound_in f k b.low each.0 in
    let high = bound_in f k b.high each.1 in
    rw is
    (record {
      place = λ known. record { known = tt; kind = refl; within = covers_both (range_of k) r low high; whole = λ all. true≢false all };
      start = low_in r.low r.high ends.1;
      known = λ whole. refl;
      whole = tt;
    })
subrange_by false f k at b is = rw is (none_sound f)

subrange_sound : (f : FileData) (k : Elementary) (at : ℕ) (b : BoundsData) → IsSoundDomain f (subrange_domain f k at b)
subrange_sound f k at b = subrange_by (judged_subrange f k at b).whole f k at b refl

-- ---- enumerations

pub last_is : (f : FileData) (t : ℕ) (at : ℕ) (first : Named) (others : List Named) → specification_at f t ≡ Some (of_values at first others) → last f t ≡ pos (length others)
last_is f t at first others is = ap last_value is

-- so many values are known
pub known_values : (f : FileData) (t : ℕ) (at : ℕ) (first : Named) (others : List Named) → specification_at f t ≡ Some (of_values at first others) → has_few others ≡ true → IsKnown (last f) (kinds.Enumeration t)
known_values f t at first others is few = subst (λ (v : ℤ). in_range v (range_of types.Usint) ≡ true) (sym (last_is f t at first others is)) (few_in (length others) few)

enumeration_by : (c : Bool) (f : FileData) (t at : ℕ) (first : Named) (others : List Named) → specification_at f t ≡ Some (of_values at first others) → has_few others ≡ c → IsSoundDomain f (enumeration_domain t others)
enumeration_by true f t at first others there is =
    let same : (let r : Range = record { low = pos 0; high = pos (length others) } in r) ≡ range_of_type (last f) (kinds.Enumeration t) = λ i. record { low = pos 0; high = sym (last_is f t at first others there) i } in
    rw is
    (record {
      place = λ known. record {
        known = known_values f t at first others there is;
        kind = refl;
        within = subst (λ (r : Range). covers r (let s : Range = record { low = pos 0; high = pos (length others) } in s) ≡ true) same (covers_self (record { low = pos 0; high = pos (length others) }));
        whole = λ all. same;
      };
      start = first_in (length others);
      known = λ whole. refl;
      whole = refl;
    })
enumeration_by false f t at first others there is = rw is (none_sound f)

-- ---- types

end_sound : (f : FileData) (t : ℕ) (s : Option SpecificationData) → specification_at f t ≡ s → IsSoundDomain f (end_domain f t s)
end_sound f t None is = none_sound f
end_sound f t (Some (of_values at first others)) is = enumeration_by (has_few others) f t at first others is refl
end_sound f t (Some (of_type (of_elementary k at))) is = elementary_sound f k
end_sound f t (Some (of_type (of_subrange k at b))) is = subrange_sound f k at b
end_sound f t (Some (of_type (of_name n))) is = none_sound f

named_sound : (f : FileData) (s : Option Standing) → IsSoundDomain f (named_domain f s)
named_sound f None = none_sound f
named_sound f (Some (standings.Type t)) = end_sound f (end_of f t) (end_specification f t) refl
named_sound f (Some (standings.Value t k)) = none_sound f
named_sound f (Some (standings.Pou p)) = none_sound f

domain_sound : (f : FileData) (t : TypeData) → IsSoundDomain f (domain_of f t)
domain_sound f (of_elementary k at) = elementary_sound f k
domain_sound f (of_subrange k at b) = subrange_sound f k at b
domain_sound f (of_name n) = named_sound f (standing f n.text)

if_sound : (f : FileData) (t : Option TypeData) → IsSoundDomain f (domain_if f t)
if_sound f None = elementary_sound f types.Bool
if_sound f (Some t) = domain_sound f t

-- the domain of each variable
pub variable_sound : (f : FileData) (v : Variable) → IsSoundDomain f (domain_of_variable f v)
variable_sound f v = if_sound f v.kind

-- ---- what a variable begins with

given_in : (f : FileData) (d : Domain) (at : ℕ) (initial : Option Tree) → in_range d.start d.range ≡ true → (judged_initial f d at initial).whole ≡ true → in_range (given_value f d initial) d.range ≡ true
given_in f d at None start whole = start
given_in f d at (Some e) start whole =
    (whole_require (require (judged (values_scope f) (Some d.kind) e) (is_same_type (type_of (values_scope f) (Some d.kind) e) d.kind) ValueType at) (in_range (constant_of (values_scope f) d.kind e) d.range) OutsideType (place_of e) whole).1

start_by : (c : Bool) (f : FileData) (d : Domain) (at : ℕ) (initial : Option Tree) → (judged_initial f d at initial).whole ≡ c → in_range d.start d.range ≡ true → in_range (start_of f d at initial) d.range ≡ true
start_by true f d at initial is start = rw is (given_in f d at initial start is)
start_by false f d at initial is start = rw is start

pub initial_in : (f : FileData) (v : Variable) → in_range (initial_of f v) (domain_of_variable f v).range ≡ true
initial_in f v = start_by (judged_initial f (domain_of_variable f v) v.name.at v.initial).whole f (domain_of_variable f v) v.name.at v.initial refl (variable_sound f v).start
