-- The number of the last value of each enumeration of a file, by the types of its PROGRAM.
use Rattle.std.proofs.Common.{◌≡◌, ℕ, zero, suc, ℤ, pos, Bool, true, false, List, [], ◌∷◌, length, Some, option_map, refl, sym, ap, subst, if◌then◌else◌}
use Rattle.std.specs.List.{slice_get}
use Rattle.std.proofs.lemmas.List.{length-map}
use Rattle.plc_types.specs.declared.elementary.Elementary.TheVariants as types
use Rattle.plc_types.specs.declared.data_type.DataType.TheVariants as kinds
use Rattle.plc_types.specs.Types.{range_of, in_range}
use Rattle.plc_types.specs.Enumerations.{names_at}
use Rattle.plc_types.proofs.TypeRanges.{few_in as usint_few}
use Rattle.rules.specs.declared.rule.Rule.TheVariants.{TooManyValues}
use Rattle.rules.specs.Judgements.{ok, breaks}
use Rattle.source_tree.specs.Syntax.{Named, SpecificationData, of_type, of_values, TypeDeclarationData, FileData}
use Rattle.naming.specs.FileScope.{types_of}
use Rattle.naming.specs.Types.{specification_at}
use Rattle.typing.specs.Domains.{has_few, judged_specification, judged_types}
use Rattle.typing.specs.TypedPrograms.{value_texts, type_texts}
use Rattle.typed_files.specs.typed_scopes.Types.{IsKnown}
use Rattle.typed_files.specs.typed_cells.Places.{last_value, last}
use Rattle.typed_files.proofs.whole_files.Told.{nil_front, nil_behind}
use Rattle.stated_cells.specs.StatedCells.{last_number, last_of, has_values}

-- ---- one number

last_is : (s : SpecificationData) → last_value (Some s) ≡ last_number (value_texts s)
last_is (of_type k) = refl
last_is (of_values at first others) = ap pos (sym (length-map others (λ n. n.text)))

last_in : (ds : List TypeDeclarationData) (t : ℕ) → last_value (option_map (λ (d : TypeDeclarationData). d.specification) (slice_get ds t)) ≡ last_of (type_texts ds) t
last_in [] t = refl
last_in (d ∷ ds) zero = last_is d.specification
last_in (d ∷ ds) (suc t) = last_in ds t

pub same_last : (f : FileData) → last f ≡ last_of (type_texts (types_of f))
same_last f = λ i t. last_in (types_of f) t i

-- ---- a type with values

values_in : (ds : List TypeDeclarationData) (t at : ℕ) (first : Named) (others : List Named) → option_map (λ (d : TypeDeclarationData). d.specification) (slice_get ds t) ≡ Some (of_values at first others)
    → has_values (names_at (type_texts ds) t) ≡ true
values_in [] t at first others is = absurd (let e : ⊥ = cc in e)
values_in (d ∷ ds) zero at first others is =
    let same : d.specification ≡ of_values at first others = cc in
    ap (λ (s : SpecificationData). has_values (value_texts s)) same
values_in (d ∷ ds) (suc t) at first others is = values_in ds t at first others is

pub has_those : (f : FileData) (t at : ℕ) (first : Named) (others : List Named) → specification_at f t ≡ Some (of_values at first others) → has_values (names_at (type_texts (types_of f)) t) ≡ true
has_those f t at first others is = values_in (types_of f) t at first others is

-- ---- few values

broken_if : (b : Bool) (at : ℕ) → (if b then ok else breaks TooManyValues at).broken ≡ [] → b ≡ true
broken_if true at none = refl
broken_if false at none = absurd (let e : ⊥ = cc in e)

few_of : (f : FileData) (n : Named) (s : SpecificationData) → (judged_specification f n s).broken ≡ [] → in_range (last_number (value_texts s)) (range_of types.Usint) ≡ true
few_of f n (of_type k) none = refl
few_of f n (of_values at first others) none =
    let few : has_few others ≡ true = broken_if (has_few others) n.at none in
    subst (λ (v : ℤ). in_range v (range_of types.Usint) ≡ true) (last_is (of_values at first others)) (usint_few (length others) few)

few_in : (f : FileData) (ds : List TypeDeclarationData) → (judged_types f ds).broken ≡ [] → (t : ℕ) → in_range (last_of (type_texts ds) t) (range_of types.Usint) ≡ true
few_in f [] none t = refl
few_in f (d ∷ ds) none zero = few_of f d.name d.specification (nil_front (judged_specification f d.name d.specification).broken (judged_types f ds).broken none)
few_in f (d ∷ ds) none (suc t) = few_in f ds (nil_behind (judged_specification f d.name d.specification).broken (judged_types f ds).broken none) t

pub all_few : (f : FileData) → (judged_types f (types_of f)).broken ≡ [] → (t : ℕ) → IsKnown (last_of (type_texts (types_of f))) (kinds.Enumeration t)
all_few f none t = few_in f (types_of f) none t
