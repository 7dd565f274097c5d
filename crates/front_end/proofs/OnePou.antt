-- A file that breaks no rule on names has one PROGRAM.
use Rattle.std.proofs.Common.{◌≡◌, ◌<◌, ◌≤◌, ◌+◌, ◌==◌, ◌++◌, ◌⊎◌, Bool, true, false, ℕ, List, [], ◌∷◌, Some, None, length, sym, ◌∙◌, refl, arith, rules, tests, inl, inr}
use Rattle.std.specs.List.{position, position_or_len, count_by, slice_get, slice_index_or}
use Rattle.std.proofs.lemmas.Iterator.Adapters.{position_from-zero}
use Rattle.std.proofs.lemmas.Option.{slice_get_cases}
use Rattle.rules.specs.declared.rule.Refusal.{Refusal}
use Rattle.source_tree.specs.Syntax.{PouData, FileData}
use Rattle.naming.specs.FileScope.{types_of, pous_of, names_of}
use Rattle.naming.specs.Broken.{broken_names, is_program_pou, not_one, names_twice, in_types, in_results, in_pous}
use Rattle.front_end.specs.Texts.{HasProgram}

-- what passes a test stands before the end
before_end_by : {X : Type 0} (test : X → Bool) (x : X) (xs : List X) (b : Bool) → test x ≡ b → (0 < count_by test xs → position_or_len test xs < length xs)
    → 0 < count_by test (x ∷ xs) → position_or_len test (x ∷ xs) < length (x ∷ xs)
before_end_by test x xs true e rest h =
    let p : position_or_len test (x ∷ xs) ≡ 0 = rw e refl in
    omega (arith, p)
before_end_by test x xs false e rest h =
    let c : count_by test (x ∷ xs) ≡ count_by test xs = rw e refl in
    let p : position_or_len test (x ∷ xs) ≡ 1 + position_or_len test xs = rw e refl in
    let r = rest (omega (arith, c)) in
    omega (arith, p)

before_end : {X : Type 0} (test : X → Bool) (xs : List X) → 0 < count_by test xs → position_or_len test xs < length xs
before_end test [] h = absurd (omega arith)
before_end test (x ∷ xs) h = before_end_by test x xs (test x) refl (before_end test xs) h

-- the element at a place before the end
element_by : {X : Type 0} (xs : List X) (i : ℕ) → i < length xs → ((x : X) × (i < length xs) × (slice_get xs i ≡ Some x) × (slice_index_or xs i x ≡ x)) ⊎ ((length xs ≤ i) × (slice_get xs i ≡ None))
    → (x : X) × (slice_get xs i ≡ Some x)
element_by xs i h (inl k) = (k.0, k.2)
element_by xs i h (inr k) = let past = k.0 in absurd (omega arith)

-- a list with one that passes has a first
first_by : {X : Type 0} (test : X → Bool) (xs : List X) → position_or_len test xs < length xs → position test xs ≡ Some (position_or_len test xs)
first_by test xs h = search (rules, tests)

-- one POU of a file is its PROGRAM
pub record HasOne (f : FileData) : Type 0 where
  pub number : ℕ
  pub pou : PouData
  pub one : HasProgram f number pou

counted_by : (ps : List PouData) (b : Bool) → (count_by is_program_pou ps == 1) ≡ b → not_one ps ≡ [] → count_by is_program_pou ps ≡ 1
counted_by ps true e h = search (rules, tests)
counted_by ps false e h = absurd (search (rules, tests))

front_of_none : (xs ys : List Refusal) → xs ++ ys ≡ [] → xs ≡ []
front_of_none [] ys e = refl
front_of_none (x ∷ xs) ys e = cc

pub one_pou : (f : FileData) → broken_names f ≡ [] → HasOne f
one_pou f none =
    let ps = pous_of f in
    let names = names_twice [] (names_of f) in
    let kinds = in_types f 0 (types_of f) in
    let results = in_results f (length (types_of f)) ps in
    let one = front_of_none (not_one ps) names (front_of_none (not_one ps ++ names) kinds (front_of_none (not_one ps ++ names ++ kinds) results (front_of_none (not_one ps ++ names ++ kinds ++ results) (in_pous f ps) none))) in
    let count = counted_by ps (count_by is_program_pou ps == 1) refl one in
    let before = before_end is_program_pou ps (omega (arith, count)) in
    let place = position_or_len is_program_pou ps in
    let element = element_by ps place before (slice_get_cases ps place).1 in
    record { number = place; pou = element.0; one = record { is = sym (position_from-zero is_program_pou ps) ∙ first_by is_program_pou ps before; there = element.1 } }
