-- A value that a name stands for is one of its type's.
use Rattle.std.proofs.Common.{◌≡◌, ℕ, ◌+◌, ◌<◌, ◌≤◌, ℤ, pos, Bool, true, false, if◌then◌else◌, List, [], ◌∷◌, ◌++◌, length, Option, Some, None, option_map, refl, sym, ap, subst, ◌∙◌, append_assoc, arith}
use Rattle.std.specs.List.{slice_get}
use Rattle.std.proofs.lemmas.List.{length-append}
use Rattle.std.proofs.lemmas.Bool.{false≢true}
use Rattle.plc_types.specs.declared.data_type.DataType.TheVariants as kinds
use Rattle.plc_types.specs.Types.{in_range}
use Rattle.plc_types.proofs.TypeRanges.{value_in}
use Rattle.source_tree.specs.Syntax.{Named, SpecificationData, of_type, of_values, TypeDeclarationData, types, pou, FileData}
use Rattle.naming.specs.declared.standing.Standing.{Standing}
use Rattle.naming.specs.declared.standing.Standing.TheVariants as standings
use Rattle.naming.specs.FileScope.{types_of, DeclaredName, names_of_values, names_in_specification, names_of_types, names_of_items, names_of, is_declared_as, is_doubled_in_file, first_standing, standing}
use Rattle.naming.specs.Types.{specification_at}
use Rattle.typing.specs.declared.scope.Meaning.{Meaning}
use Rattle.typing.specs.Domains.{value_meaning, is_few, value_at}
use Rattle.typing.specs.OwnDomains.{count_of_values}
use Rattle.typed_programs.specs.Scopes.{BodyScope}
use Rattle.typed_scopes.specs.Types.{range_of_type, IsKnown}
use Rattle.typed_scopes.specs.Fitting.{MeaningFits}
use Rattle.typed_cells.specs.Places.{last}
use Rattle.typed_cells.proofs.Domains.{last_is, known_values}

count_at : Option TypeDeclarationData → ℕ
count_at None = 0
count_at (Some d) = count_of_values d.specification

-- a value's number is below the number of its type's values
IsWithin : List TypeDeclarationData → Standing → Type 0
IsWithin all (standings.Type t) = Unit {0}
IsWithin all (standings.Value t k) = k < count_at (slice_get all t)
IsWithin all (standings.Pou p) = Unit {0}

AreWithin : List TypeDeclarationData → List DeclaredName → Type 0
AreWithin all [] = Unit {0}
AreWithin all (d ∷ ds) = IsWithin all d.1 × AreWithin all ds

within-append : (all : List TypeDeclarationData) (xs ys : List DeclaredName) → AreWithin all xs → AreWithin all ys → AreWithin all (xs ++ ys)
unfolding AreWithin
within-append all [] ys a b = b
within-append all (x ∷ xs) ys a b = (a.0, within-append all xs ys a.1 b)

values_within : (all : List TypeDeclarationData) (t number count : ℕ) (ns : List Named) → count ≡ count_at (slice_get all t) → number + length ns ≤ count → AreWithin all (names_of_values t number ns)
unfolding AreWithin IsWithin
values_within all t number count [] is fits = tt
values_within all t number count (n ∷ ns) is fits = (omega arith, values_within all t (number + 1) count ns is (omega arith))

specification_within : (all : List TypeDeclarationData) (t : ℕ) (s : SpecificationData) → count_at (slice_get all t) ≡ count_of_values s → AreWithin all (names_in_specification t s)
unfolding AreWithin
specification_within all t (of_type k) is = tt
specification_within all t (of_values at first others) is = values_within all t 0 (length (first ∷ others)) (first ∷ others) (sym is) (omega arith)

slice_get_at : {A : Type 0} → (before : List A) (x : A) (rest : List A) → slice_get (before ++ x ∷ rest) (length before) ≡ Some x
slice_get_at [] x rest = refl
slice_get_at (b ∷ bs) x rest = slice_get_at bs x rest

types_within : (all before ds rest : List TypeDeclarationData) (number : ℕ) → all ≡ before ++ (ds ++ rest) → number ≡ length before → AreWithin all (names_of_types number ds)
unfolding AreWithin IsWithin count_at
types_within all before [] rest number is place = tt
types_within all before (d ∷ ds) rest number is place =
    let here : slice_get all number ≡ Some d = ap (slice_get all) place ∙ ap (λ (l : List TypeDeclarationData). slice_get l (length before)) is ∙ slice_get_at before d (ds ++ rest) in
    let after : number + 1 ≡ length (before ++ d ∷ []) = ap (λ k. k + 1) place ∙ sym (length-append before (d ∷ [])) in (
      tt,
      within-append all (names_in_specification number d.specification) (names_of_types (number + 1) ds) (specification_within all number d.specification (ap count_at here))
          (types_within all (before ++ d ∷ []) ds rest (number + 1) (is ∙ sym (append_assoc before (d ∷ []) (ds ++ rest))) after),
    )

items_within : (all before : List TypeDeclarationData) (is : FileData) (number k : ℕ) → all ≡ before ++ types_of is → number ≡ length before → AreWithin all (names_of_items number k is)
unfolding AreWithin IsWithin
items_within all before [] number k e place = tt
items_within all before (types ds ∷ is) number k e place =
    let after : number + length ds ≡ length (before ++ ds) = ap (λ k. k + length ds) place ∙ sym (length-append before ds) in
    within-append all (names_of_types number ds) (names_of_items (number + length ds) k is) (types_within all before ds (types_of is) number e place)
    (items_within all (before ++ ds) is (number + length ds) k (e ∙ sym (append_assoc before ds (types_of is))) after)
items_within all before (pou q ∷ is) number k e place = (tt, items_within all before is number (k + 1) e place)

here_or_later : (b : Bool) (all : List TypeDeclarationData) (x s : Standing) (rest : Option Standing) → (if b then Some x else rest) ≡ Some s → IsWithin all x → (rest ≡ Some s → IsWithin all s) → IsWithin all s
here_or_later true all x s rest e here later = let same : x ≡ s = cc in subst (IsWithin all) same here
here_or_later false all x s rest e here later = later e

first_within : (all : List TypeDeclarationData) (text : List ℕ) (ds : List DeclaredName) (s : Standing) → first_standing text ds ≡ Some s → AreWithin all ds → IsWithin all s
unfolding AreWithin
first_within all text [] s e within = absurd (let h : ⊥ = cc in h)
first_within all text (d ∷ ds) s e within = here_or_later (is_declared_as text d) all d.1 s (first_standing text ds) e within.0 (λ rest. first_within all text ds s rest within.1)

once : (b : Bool) (o : Option Standing) (s : Standing) → (if b then None else o) ≡ Some s → o ≡ Some s
once true o s e = absurd (let h : ⊥ = cc in h)
once false o s e = e

standing_within : (f : FileData) (text : List ℕ) (s : Standing) → standing f text ≡ Some s → IsWithin (types_of f) s
unfolding standing
standing_within f text s e =
    first_within (types_of f) text (names_of f) s (once (is_doubled_in_file f text) (first_standing text (names_of f)) s e) (items_within (types_of f) [] f 0 0 refl refl)

-- ---- what a value stands for

record IsOneOf (f : FileData) (t n : ℕ) : Type 0 where
  known : IsKnown (last f) (kinds.Enumeration t)
  inside : in_range (pos n) (range_of_type (last f) (kinds.Enumeration t)) ≡ true

count_is : (f : FileData) (t : ℕ) (o : Option TypeDeclarationData) (s : SpecificationData) → option_map (λ (d : TypeDeclarationData). d.specification) o ≡ Some s → count_at o ≡ count_of_values s
unfolding count_at
count_is f t None s is = absurd (let h : ⊥ = cc in h)
count_is f t (Some d) s is = let same : d.specification ≡ s = cc in ap count_of_values same

one_by : (f : FileData) (t n : ℕ) (s : Option SpecificationData) → specification_at f t ≡ s → n < count_at (slice_get (types_of f) t) → is_few s ≡ true → IsOneOf f t n
one_by f t n None is low few = absurd (false≢true few)
one_by f t n (Some (of_type k)) is low few = absurd (false≢true few)
one_by f t n (Some (of_values at first others)) is low few =
    let count : count_at (slice_get (types_of f) t) ≡ length (first ∷ others) = count_is f t (slice_get (types_of f) t) (of_values at first others) is in
    let below : n < length (first ∷ others) = omega (arith, low, count) in
    record {
      known = known_values f t at first others is few;
      inside = subst (λ (v : ℤ). in_range (pos n) (record { low = pos 0; high = v }) ≡ true) (sym (last_is f t at first others is)) (value_in n (length others) (omega (arith, below)));
    }

one_of : (f : FileData) (text : List ℕ) (t n : ℕ) → standing f text ≡ Some (standings.Value t n) → is_few (specification_at f t) ≡ true → IsOneOf f t n
unfolding IsWithin
one_of f text t n stands few = one_by f t n (specification_at f t) refl (standing_within f text (standings.Value t n) stands) few

value_by : (f : FileData) (text : List ℕ) (b : BodyScope) (s : Option Standing) → standing f text ≡ s → (m : Meaning) → value_at f s ≡ Some m → MeaningFits b (last f) m
value_by f text b None is m found = absurd (let h : ⊥ = cc in h)
value_by f text b (Some (standings.Type t)) is m found = absurd (let h : ⊥ = cc in h)
value_by f text b (Some (standings.Pou p)) is m found = absurd (let h : ⊥ = cc in h)
value_by f text b (Some (standings.Value t n)) is m found =
    let same : value_meaning t n (is_few (specification_at f t)) ≡ m = cc in
    subst (λ (x : Meaning). MeaningFits b (last f) x) same (λ whole known. let one = one_of f text t n is whole in (one.known, one.inside, refl))

pub value_fits : (f : FileData) (text : List ℕ) (b : BodyScope) (m : Meaning) → value_at f (standing f text) ≡ Some m → MeaningFits b (last f) m
value_fits f text b m found = value_by f text b (standing f text) refl m found
