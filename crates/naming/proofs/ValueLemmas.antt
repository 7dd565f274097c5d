-- The types of a file and their values, among its names.
use Rattle.std.proofs.Common.{◌≡◌, inl, inr, ℕ, zero, suc, ◌+◌, ◌<◌, ◌≤◌, List, [], ◌∷◌, length, Bool, true, false, true≢false, ◌&&◌, ◌||◌, not, nat_lt, Option, Some, None, option_map, refl, sym, ap, ◌∙◌, subst, if◌then◌else◌, count_by, arith, add-zero, zero-add}
use Rattle.std.specs.List.{list_any, slice_get}
use Rattle.std.specs.Str.{bytes_eq}
use Rattle.std.specs.Cmp.Lexicographic.{bytes_decides}
use Rattle.std.proofs.lemmas.Bool.Decides.{nat_tests}
use Rattle.std.proofs.Math.Bool.{or-true}
use Rattle.source_tree.specs.Syntax.{Named, of_elementary, of_subrange, of_name, SpecificationData, of_type, of_values, TypeDeclarationData, FileData}
use Rattle.naming.specs.declared.standing.Standing.{Standing}
use Rattle.naming.specs.declared.standing.Standing.TheVariants as standings
use Rattle.naming.specs.FileScope.{types_of, DeclaredName, names_of_values, names_in_specification, names_of_types, names_of, is_declared_as, is_doubled_in_file, first_standing, standing}
use Rattle.naming.specs.Library.{is_library}
use Rattle.naming.specs.Types.{specification_at, is_that_value, are_first, has_value}
use Rattle.naming.specs.Ends.{shape_of, is_sound, is_value_of}
use Rattle.naming.proofs.NameLemmas.{IsIn, in_left, in_right, in_split, of_file, in_file_names, found_in, first_of}

abbrev pub specification_in : List TypeDeclarationData → ℕ → Option SpecificationData
specification_in ds i = option_map (λ d. d.specification) (slice_get ds i)

abbrev pub is_text : List ℕ → Named → Bool
is_text text n = bytes_eq n.text text

abbrev pub names_value : List ℕ → Option SpecificationData → Bool
names_value text None = false
names_value text (Some (of_type k)) = false
names_value text (Some (of_values at first others)) = list_any (is_text text) (first ∷ others)

in_values : (d : DeclaredName) (t number : ℕ) (ns : List Named) → IsIn d (names_of_values t number ns) → (k : ℕ) × (d.1 ≡ standings.Value t k) × (list_any (is_text d.0.text) ns ≡ true)
in_values d t number [] h = absurd h
in_values d t number (n ∷ ns) (inl e) = (number, ap (λ x. x.1) e, ap (λ b. b || list_any (is_text d.0.text) ns) ((bytes_decides n.text d.0.text).1 (ap (λ x. x.0.text) (sym e))))
in_values d t number (n ∷ ns) (inr k) = let r = in_values d t (number + 1) ns k in (r.0, r.1, rw r.2 (or-true (is_text d.0.text n)))

pub in_specification : (d : DeclaredName) (t : ℕ) (s : SpecificationData) → IsIn d (names_in_specification t s) → (k : ℕ) × (d.1 ≡ standings.Value t k) × (names_value d.0.text (Some s) ≡ true)
in_specification d t (of_type k) h = absurd h
in_specification d t (of_values at first others) h = in_values d t 0 (first ∷ others) h

-- the number of a type that a name stands for
pub type_below : (d : DeclaredName) (number t : ℕ) (ds : List TypeDeclarationData) → IsIn d (names_of_types number ds) → d.1 ≡ standings.Type t → t < number + length ds
type_below d number t [] h e = absurd h
type_below d number t (x ∷ ds) (inl is) e = let same : number ≡ t = (let i = sym (ap (λ y. y.1) is) ∙ e in cc) in omega arith
type_below d number t (x ∷ ds) (inr k) e = elim (in_split d (names_in_specification number x.specification) (names_of_types (number + 1) ds) k) as (λ _. t < number + suc (length ds)) [
  | inl v ↦ let r = (in_specification d number x.specification v).1 in absurd (let i : ⊥ = cc in i)
  | inr r ↦ let b = type_below d (number + 1) t ds r e in omega arith
]

value_above : (d : DeclaredName) (number t k : ℕ) (ds : List TypeDeclarationData) → IsIn d (names_of_types number ds) → d.1 ≡ standings.Value t k → number ≤ t
value_above d number t k [] h e = absurd h
value_above d number t k (x ∷ ds) (inl is) e = absurd (let j = sym (ap (λ y. y.1) is) ∙ e in let f : ⊥ = cc in f)
value_above d number t k (x ∷ ds) (inr h) e = elim (in_split d (names_in_specification number x.specification) (names_of_types (number + 1) ds) h) as (λ _. number ≤ t) [
  | inl v ↦ let r = (in_specification d number x.specification v).1 in let same : number ≡ t = (let j = sym r ∙ e in cc) in omega arith
  | inr r ↦ let b = value_above d (number + 1) t k ds r e in omega arith
]

-- the type of a value has a value of that name
pub value_in : (d : DeclaredName) (number i k : ℕ) (ds : List TypeDeclarationData) → IsIn d (names_of_types number ds) → d.1 ≡ standings.Value (number + i) k → names_value d.0.text (specification_in ds i) ≡ true
value_in d number i k [] h e = absurd h
value_in d number i k (x ∷ ds) (inl is) e = absurd (let j = sym (ap (λ y. y.1) is) ∙ e in let f : ⊥ = cc in f)
value_in d number i k (x ∷ ds) (inr h) e = elim (in_split d (names_in_specification number x.specification) (names_of_types (number + 1) ds) h) as (λ _. names_value d.0.text (specification_in (x ∷ ds) i) ≡ true) [
  | inl v ↦ let r = in_specification d number x.specification v in here i r.0 r.1 r.2 e
  | inr r ↦ there i (λ j. value_in d (number + 1) j k ds) r e
]
  where
    here : (i m : ℕ) → d.1 ≡ standings.Value number m → names_value d.0.text (Some x.specification) ≡ true → d.1 ≡ standings.Value (number + i) k → names_value d.0.text (specification_in (x ∷ ds) i) ≡ true
    here zero m a b c = b
    here (suc i) m a b c = let same : number ≡ number + suc i = (let j = sym a ∙ c in cc) in absurd (omega arith)

    there : (i : ℕ) → ((j : ℕ) → IsIn d (names_of_types (number + 1) ds) → d.1 ≡ standings.Value (number + 1 + j) k → names_value d.0.text (specification_in ds j) ≡ true)
        → IsIn d (names_of_types (number + 1) ds) → d.1 ≡ standings.Value (number + i) k → names_value d.0.text (specification_in (x ∷ ds) i) ≡ true
    there zero rest r c = let low = value_above d (number + 1) (number + 0) k ds r c in absurd (omega arith)
    there (suc i) rest r c = rest i r (c ∙ ap (λ t. standings.Value t k) (omega arith))

-- what is declared stands among the names
pub type_in : (number i : ℕ) (ds : List TypeDeclarationData) (d : TypeDeclarationData) → slice_get ds i ≡ Some d → IsIn (d.name, standings.Type (number + i)) (names_of_types number ds)
type_in number i [] d h = absurd (let e : ⊥ = cc in e)
type_in number zero (x ∷ ds) d h = inl (let e : x ≡ d = cc in rw add-zero (ap (λ y. (y.name, standings.Type number)) (sym e)))
type_in number (suc i) (x ∷ ds) d h =
    let rest = type_in (number + 1) i ds d h in
    inr (in_right (d.name, standings.Type (number + suc i)) (names_in_specification number x.specification) (names_of_types (number + 1) ds) (subst (λ k. IsIn (d.name, standings.Type k) (names_of_types (number + 1) ds)) (omega arith) rest))

-- what the specification of a type gives stands among the names
pub given_in : (number i : ℕ) (ds : List TypeDeclarationData) (x : TypeDeclarationData) (d : DeclaredName) → slice_get ds i ≡ Some x → IsIn d (names_in_specification (number + i) x.specification) → IsIn d (names_of_types number ds)
given_in number i [] x d h given = absurd (let e : ⊥ = cc in e)
given_in number zero (y ∷ ds) x d h given =
    let e : y ≡ x = cc in
    inr (in_left d (names_in_specification number y.specification) (names_of_types (number + 1) ds)
    (subst (λ z. IsIn d (names_in_specification number z.specification)) (sym e) (subst (λ k. IsIn d (names_in_specification k x.specification)) (add-zero number) given)))
given_in number (suc i) (y ∷ ds) x d h given =
    let moved : IsIn d (names_in_specification (number + 1 + i) x.specification) = subst (λ k. IsIn d (names_in_specification k x.specification)) (omega arith) given in
    inr (in_right d (names_in_specification number y.specification) (names_of_types (number + 1) ds) (given_in (number + 1) i ds x d h moved))

-- a name among values, and the value that it is declared as
values_in : (t number : ℕ) (text : List ℕ) (ns : List Named) → list_any (is_text text) ns ≡ true → (d : DeclaredName) × IsIn d (names_of_values t number ns) × (d.0.text ≡ text) × ((k : ℕ) × (d.1 ≡ standings.Value t k))
values_in t number text [] h = absurd (true≢false (sym h))
values_in t number text (n ∷ ns) h = by (is_text text n) refl (values_in t (number + 1) text ns) h
  where
    by : (b : Bool) → is_text text n ≡ b → (list_any (is_text text) ns ≡ true → (d : DeclaredName) × IsIn d (names_of_values t (number + 1) ns) × (d.0.text ≡ text) × ((k : ℕ) × (d.1 ≡ standings.Value t k)))
        → (b || list_any (is_text text) ns) ≡ true → (d : DeclaredName) × IsIn d (names_of_values t number (n ∷ ns)) × (d.0.text ≡ text) × ((k : ℕ) × (d.1 ≡ standings.Value t k))
    by true e rest k = ((n, standings.Value t number), inl refl, (bytes_decides n.text text).0 e, (number, refl))
    by false e rest k = let r = rest k in (r.0, inr r.1, r.2, r.3)

pub value_named : (number i : ℕ) (text : List ℕ) (ds : List TypeDeclarationData) → names_value text (specification_in ds i) ≡ true
    → (d : DeclaredName) × IsIn d (names_of_types number ds) × (d.0.text ≡ text) × ((k : ℕ) × (d.1 ≡ standings.Value (number + i) k))
value_named number i text [] h = absurd (true≢false (sym h))
value_named number zero text (x ∷ ds) h = by x.specification refl h
  where
    by : (s : SpecificationData) → x.specification ≡ s → names_value text (Some s) ≡ true → (d : DeclaredName) × IsIn d (names_of_types number (x ∷ ds)) × (d.0.text ≡ text) × ((k : ℕ) × (d.1 ≡ standings.Value (number + 0) k))
    by (of_type k) e h = absurd (true≢false (sym h))
    by (of_values at first others) e h =
        let r = values_in number 0 text (first ∷ others) h in
        (r.0, inr (in_left r.0 (names_in_specification number x.specification) (names_of_types (number + 1) ds) (subst (λ s. IsIn r.0 (names_in_specification number s)) (sym e) r.1)), r.2, (r.3.0, r.3.1 ∙ ap (λ t. standings.Value t r.3.0) (sym (add-zero number))))
value_named number (suc i) text (x ∷ ds) h =
    let r = value_named (number + 1) i text ds h in
    (r.0, inr (in_right r.0 (names_in_specification number x.specification) (names_of_types (number + 1) ds) r.1), r.2, (r.3.0, r.3.1 ∙ ap (λ t. standings.Value t r.3.0) (omega arith)))

-- ---- in a file

pub standing_first : (f : FileData) (q : List ℕ) → is_doubled_in_file f q ≡ false → standing f q ≡ first_standing q (names_of f)
unfolding standing
standing_first f q h = rw h refl

pub standing_some : (f : FileData) (q : List ℕ) (s : Standing) → standing f q ≡ Some s → first_standing q (names_of f) ≡ Some s
unfolding standing
standing_some f q s h = by (is_doubled_in_file f q) h
  where
    by : (b : Bool) → (if b then None else first_standing q (names_of f)) ≡ Some s → first_standing q (names_of f) ≡ Some s
    by true k = absurd (let e : ⊥ = cc in e)
    by false k = k

-- a name that the file's scope has once stands for what it is declared as
pub stands_for : (f : FileData) (d : DeclaredName) → IsIn d (names_of_types 0 (types_of f)) → is_doubled_in_file f d.0.text ≡ false → standing f d.0.text ≡ Some d.1
stands_for f d h once =
    let few : count_by (is_declared_as d.0.text) (names_of f) ≤ 1 = few_of (count_by (is_declared_as d.0.text) (names_of f)) (is_library d.0.text) once in
    standing_first f d.0.text once ∙ first_of d (names_of f) (in_file_names d 0 0 f h) few
  where
    few_of : (n : ℕ) (l : Bool) → nat_lt 1 (n + (if l then 1 else 0)) ≡ false → n ≤ 1
    few_of n true h = grind (arith, nat_tests)
    few_of n false h = grind (arith, nat_tests)

pub standing_type : (f : FileData) (q : List ℕ) (t : ℕ) → standing f q ≡ Some (standings.Type t) → t < length (types_of f)
standing_type f q t h =
    let r = found_in q (names_of f) (standings.Type t) (standing_some f q (standings.Type t) h) in
    elim (of_file r.0 0 0 f r.1) as (λ _. t < length (types_of f)) [
      | inl e ↦ absurd (let i = r.3 in let j = e.1 in let g : ⊥ = cc in g)
      | inr k ↦ let b = type_below r.0 0 t (types_of f) k r.3 in omega arith
    ]

pub standing_value : (f : FileData) (q : List ℕ) (t k : ℕ) → standing f q ≡ Some (standings.Value t k) → names_value q (specification_at f t) ≡ true
standing_value f q t k h =
    let r = found_in q (names_of f) (standings.Value t k) (standing_some f q (standings.Value t k) h) in
    elim (of_file r.0 0 0 f r.1) as (λ _. names_value q (specification_at f t) ≡ true) [
      | inl e ↦ absurd (let i = r.3 in let j = e.1 in let g : ⊥ = cc in g)
      | inr m ↦ ap (λ text. names_value text (specification_at f t)) (sym r.2) ∙ value_in r.0 0 t k (types_of f) m (r.3 ∙ ap (λ n. standings.Value n k) (sym (zero-add t)))
    ]

pub first_value : (f : FileData) (q : List ℕ) (t k : ℕ) → first_standing q (names_of f) ≡ Some (standings.Value t k) → names_value q (specification_at f t) ≡ true
first_value f q t k h =
    let r = found_in q (names_of f) (standings.Value t k) h in
    elim (of_file r.0 0 0 f r.1) as (λ _. names_value q (specification_at f t) ≡ true) [
      | inl e ↦ absurd (let i = r.3 in let j = e.1 in let g : ⊥ = cc in g)
      | inr m ↦ ap (λ text. names_value text (specification_at f t)) (sym r.2) ∙ value_in r.0 0 t k (types_of f) m (r.3 ∙ ap (λ n. standings.Value n k) (sym (zero-add t)))
    ]

-- ---- values of an enumeration whose names break no rule

is_value_of-some : (number : ℕ) (o : Option Standing) → is_value_of number o ≡ true → (k : ℕ) × (o ≡ Some (standings.Value number k))
is_value_of-some number None h = absurd (true≢false (sym h))
is_value_of-some number (Some (standings.Type t)) h = absurd (true≢false (sym h))
is_value_of-some number (Some (standings.Value t k)) h = let e : t ≡ number = grind (arith, nat_tests) in (k, ap (λ n. Some (standings.Value n k)) e)
is_value_of-some number (Some (standings.Pou p)) h = absurd (true≢false (sym h))

that_is_of : (t k : ℕ) (o : Option Standing) → is_that_value t k o ≡ true → is_value_of t o ≡ true
that_is_of t k None h = absurd (true≢false (sym h))
that_is_of t k (Some (standings.Type u)) h = absurd (true≢false (sym h))
that_is_of t k (Some (standings.Value u l)) h = grind (arith, nat_tests)
that_is_of t k (Some (standings.Pou p)) h = absurd (true≢false (sym h))

three : (a b c : Bool) → (a && b && c) ≡ true → (b ≡ true) × (c ≡ true)
three true true true h = (refl, refl)
three true true false h = absurd (true≢false (sym h))
three true false c h = absurd (true≢false (sym h))
three false b c h = absurd (true≢false (sym h))

-- a name among them stands first for a value of the type
among_first : (f : FileData) (t number : ℕ) (text : List ℕ) (ns : List Named) → are_first f t number ns ≡ true → list_any (is_text text) ns ≡ true → is_value_of t (first_standing text (names_of f)) ≡ true
among_first f t number text [] whole h = absurd (true≢false (sym h))
among_first f t number text (n ∷ ns) whole h =
    let parts = three (not (is_library n.text)) (is_that_value t number (first_standing n.text (names_of f))) (are_first f t (number + 1) ns) whole in
    by (is_text text n) refl (that_is_of t number (first_standing n.text (names_of f)) parts.0) (among_first f t (number + 1) text ns parts.1) h
  where
    by : (b : Bool) → is_text text n ≡ b → is_value_of t (first_standing n.text (names_of f)) ≡ true → (list_any (is_text text) ns ≡ true → is_value_of t (first_standing text (names_of f)) ≡ true)
        → (b || list_any (is_text text) ns) ≡ true → is_value_of t (first_standing text (names_of f)) ≡ true
    by true e own rest k = ap (λ q. is_value_of t (first_standing q (names_of f))) (sym ((bytes_decides n.text text).0 e)) ∙ own
    by false e own rest k = rest k

-- a name is that of a value where it stands first for a value of the type
pub value-standing : (f : FileData) (t : ℕ) (text : List ℕ) (at : ℕ) (first : Named) (others : List Named) → specification_at f t ≡ Some (of_values at first others) → are_first f t 0 (first ∷ others) ≡ true
    → list_any (is_text text) (first ∷ others) ≡ is_value_of t (first_standing text (names_of f))
value-standing f t text at first others is whole = by (list_any (is_text text) (first ∷ others)) (is_value_of t (first_standing text (names_of f))) refl refl
  where
    by : (a b : Bool) → list_any (is_text text) (first ∷ others) ≡ a → is_value_of t (first_standing text (names_of f)) ≡ b → a ≡ b
    by true true h k = refl
    by false false h k = refl
    by true false h k = absurd (true≢false (sym (among_first f t 0 text (first ∷ others) whole h) ∙ k))
    by false true h k =
        let v = is_value_of-some t (first_standing text (names_of f)) k in
        absurd (true≢false (sym (first_value f text t v.0 v.1) ∙ ap (names_value text) is ∙ h))

pub has_value-by : (f : FileData) (t : ℕ) (text : List ℕ) (s : Option SpecificationData) → specification_at f t ≡ s
    → (is_sound (option_map (shape_of f t) s) && is_value_of t (first_standing text (names_of f))) ≡ has_value f text t s
has_value-by f t text None e = refl
has_value-by f t text (Some (of_type (of_elementary kind at))) e = refl
has_value-by f t text (Some (of_type (of_subrange kind at b))) e = refl
has_value-by f t text (Some (of_type (of_name n))) e = refl
has_value-by f t text (Some (of_values at first others)) e = by (are_first f t 0 (first ∷ others)) refl
  where
    by : (b : Bool) → are_first f t 0 (first ∷ others) ≡ b → (b && is_value_of t (first_standing text (names_of f))) ≡ (b && list_any (is_text text) (first ∷ others))
    by true whole = sym (value-standing f t text at first others e whole)
    by false whole = refl
