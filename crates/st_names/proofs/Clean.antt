-- What a file says that breaks no rule on names: no name is declared twice, and the way of each type ends.
use Rattle.std.proofs.Common.{◌≡◌, ◌≢◌, inl, inr, ℕ, zero, suc, ◌+◌, ◌<◌, List, [], ◌∷◌, ◌++◌, length, Bool, true, false, true≢false, ◌==◌, ◌&&◌, ◌||◌, nat_lt, Option, Some, None, option_map, is_some, refl, sym, ap, ◌∙◌, subst, if◌then◌else◌, count_by, arith, add-zero, zero-add, append_assoc}
use Rattle.std.specs.List.{list_any, slice_get}
use Rattle.std.specs.Option.{option_and_then, unwrap_or}
use Rattle.std.proofs.lemmas.Bool.Decides.{nat_tests}
use Rattle.std.proofs.lemmas.List.{append-nil}
use Rattle.std.proofs.lemmas.Bool.{or_parts}
use Rattle.std.proofs.Math.Bool.{or-true}
use Rattle.rules.specs.declared.rule.Refusal.{Refusal}
use Rattle.source_tree.specs.Syntax.{Named, of_elementary, of_subrange, of_name, SpecificationData, of_type, of_values, TypeDeclarationData, FileData}
use Rattle.naming.specs.declared.standing.Standing.{Standing}
use Rattle.naming.specs.declared.standing.Standing.TheVariants as standings
use Rattle.naming.specs.Broken.{twice, circular, in_file, in_specification, in_types, in_results, in_pous, names_twice, is_program_pou, not_one, broken_names}
use Rattle.naming.specs.FileScope.{types_of, pous_of, DeclaredName, names_of_values, names_in_specification, names_of_types, names_of, first_standing, is_declared_as, is_known, is_doubled_in_file, standing, is_type}
use Rattle.rules.specs.Judgements.{ok}
use Rattle.naming.specs.Library.{is_library}
use Rattle.naming.specs.Types.{type_number, named_type, specification_at, next_of, step_from, steps, doublings, end_of, ends_from, is_circular, are_first}
use Rattle.naming.proofs.CountLemmas.{count-push, any-count}
use Rattle.naming.proofs.TableLemmas.{same_declared}
use Rattle.naming.proofs.ValueLemmas.{given_in, standing_first, stands_for, standing_type}
use Rattle.naming.proofs.NameLemmas.{IsIn, counted, in_file_names}

pub nil_left : (xs ys : List Refusal) → xs ++ ys ≡ [] → xs ≡ []
nil_left [] ys h = refl
nil_left (x ∷ xs) ys h = absurd (let e : ⊥ = cc in e)

pub nil_right : (xs ys : List Refusal) → xs ++ ys ≡ [] → ys ≡ []
nil_right [] ys h = h
nil_right (x ∷ xs) ys h = absurd (let e : ⊥ = cc in e)

-- ---- the parts of what a file breaks

pub parts : (f : FileData) → broken_names f ≡ [] → (not_one (pous_of f) ≡ []) × (names_twice [] (names_of f) ≡ []) × (in_types f 0 (types_of f) ≡ []) × (in_results f (length (types_of f)) (pous_of f) ≡ []) × (in_pous f (pous_of f) ≡ [])
parts f h =
    let one = not_one (pous_of f) in
    let names = names_twice [] (names_of f) in
    let types = in_types f 0 (types_of f) in
    let results = in_results f (length (types_of f)) (pous_of f) in
    let pous = in_pous f (pous_of f) in
    let four = nil_left (one ++ names ++ types ++ results) pous h in
    let three = nil_left (one ++ names ++ types) results four in
    let two = nil_left (one ++ names) types three in
    (nil_left one names two, nil_right one names two, nil_right (one ++ names) types three, nil_right (one ++ names ++ types) results four, nil_right (one ++ names ++ types ++ results) pous h)

-- there is one PROGRAM
pub one_program : (f : FileData) → broken_names f ≡ [] → count_by is_program_pou (pous_of f) ≡ 1
one_program f h = by (count_by is_program_pou (pous_of f) == 1) refl (parts f h).0
  where
    by : (b : Bool) → (count_by is_program_pou (pous_of f) == 1) ≡ b → not_one (pous_of f) ≡ [] → count_by is_program_pou (pous_of f) ≡ 1
    by true e none = grind (arith, nat_tests)
    by false e none = absurd (let i = rw e at none in let k : ⊥ = cc in k)

-- ---- no name is declared twice

abbrev IsOnce : List DeclaredName → Type 0
IsOnce ds = (q : List ℕ) → nat_lt 1 (count_by (is_declared_as q) ds + (if is_library q then 1 else 0)) ≡ false

once_none : IsOnce []
once_none q = by (is_library q)
  where
    by : (l : Bool) → nat_lt 1 (0 + (if l then 1 else 0)) ≡ false
    by true = refl
    by false = refl

once_push : (before : List DeclaredName) (d : DeclaredName) → IsOnce before → is_library d.0.text ≡ false → list_any (is_declared_as d.0.text) before ≡ false → IsOnce (before ++ d ∷ [])
once_push before d once own new q =
    ap (λ n. nat_lt 1 (n + (if is_library q then 1 else 0))) (count-push (is_declared_as q) before d) ∙ by (is_declared_as q d) refl
  where
    by : (b : Bool) → is_declared_as q d ≡ b → nat_lt 1 (count_by (is_declared_as q) before + (if b then 1 else 0) + (if is_library q then 1 else 0)) ≡ false
    by true e =
        let same : d.0.text ≡ q = same_declared d q e in
        let library : is_library q ≡ false = ap is_library (sym same) ∙ own in
        let none : nat_lt 0 (count_by (is_declared_as q) before) ≡ false = sym (any-count (is_declared_as q) before) ∙ ap (λ t. list_any (is_declared_as t) before) (sym same) ∙ new in
        let zero_count : count_by (is_declared_as q) before ≡ 0 = grind (arith, nat_tests) in
        rw (library, zero_count) refl
    by false e = ap (λ n. nat_lt 1 (n + (if is_library q then 1 else 0))) (add-zero (count_by (is_declared_as q) before)) ∙ once q

abbrev own_refusal : DeclaredName → Bool → List Refusal
own_refusal d b = (if b then twice d.0 else ok).broken

not_own : (d : DeclaredName) (b : Bool) → own_refusal d b ≡ [] → b ≡ false
not_own d true h = absurd (let e : ⊥ = cc in e)
not_own d false h = refl

once_all : (before ds : List DeclaredName) → IsOnce before → names_twice before ds ≡ [] → IsOnce (before ++ ds)
once_all before [] once h = subst IsOnce (sym (append-nil before)) once
once_all before (d ∷ ds) once h =
    let test = is_library d.0.text || list_any (is_declared_as d.0.text) before in
    let none : test ≡ false = not_own d test (nil_left (own_refusal d test) (names_twice (before ++ d ∷ []) ds) h) in
    let new = or_parts (is_library d.0.text) (list_any (is_declared_as d.0.text) before) none in
    let more = once_push before d once new.0 new.1 in
    subst IsOnce (append_assoc before (d ∷ []) ds) (once_all (before ++ d ∷ []) ds more (nil_right (own_refusal d test) (names_twice (before ++ d ∷ []) ds) h))

pub no_doubles : (f : FileData) → names_twice [] (names_of f) ≡ [] → (q : List ℕ) → is_doubled_in_file f q ≡ false
no_doubles f h = once_all [] (names_of f) once_none h

-- ---- what a file says that declares no name twice

pub specification_some : (f : FileData) (t : ℕ) (s : SpecificationData) → specification_at f t ≡ Some s → (d : TypeDeclarationData) × (slice_get (types_of f) t ≡ Some d) × (d.specification ≡ s)
specification_some f t s h = by (slice_get (types_of f) t) refl h
  where
    by : (o : Option TypeDeclarationData) → slice_get (types_of f) t ≡ o → option_map (λ d. d.specification) o ≡ Some s → (d : TypeDeclarationData) × (slice_get (types_of f) t ≡ Some d) × (d.specification ≡ s)
    by None e k = absurd (let n : ⊥ = cc in n)
    by (Some d) e k = (d, e, let n : d.specification ≡ s = cc in n)

module _ (f : FileData) (once : (q : List ℕ) → is_doubled_in_file f q ≡ false) where
  pub some_name : (n : Named) → (in_file f n).broken ≢ []
  some_name n none = by (is_known f n.text) refl
    where
      by : (b : Bool) → is_known f n.text ≡ b → ⊥
      by true e = let i = rw (e, once n.text) at none in let k : ⊥ = cc in k
      by false e = let i = rw e at none in let k : ⊥ = cc in k

  no_library : (d : DeclaredName) → IsIn d (names_of_types 0 (types_of f)) → is_library d.0.text ≡ false
  no_library d there = by (is_library d.0.text) refl (once d.0.text)
    where
      some : 0 < count_by (is_declared_as d.0.text) (names_of f)
      some = counted d (names_of f) (in_file_names d 0 0 f there)

      by : (b : Bool) → is_library d.0.text ≡ b → nat_lt 1 (count_by (is_declared_as d.0.text) (names_of f) + (if is_library d.0.text then 1 else 0)) ≡ false → b ≡ false
      by false e k = refl
      by true e k = absurd (let i = rw e at k in let s = some in grind (arith, nat_tests))

  all_first : (t number : ℕ) (ns : List Named) → ((d : DeclaredName) → IsIn d (names_of_values t number ns) → IsIn d (names_of_types 0 (types_of f))) → are_first f t number ns ≡ true
  all_first t number [] given = refl
  all_first t number (n ∷ ns) given =
      let d : DeclaredName = (n, standings.Value t number) in
      let there = given d (inl refl) in
      let first : first_standing n.text (names_of f) ≡ Some (standings.Value t number) = sym (standing_first f n.text (once n.text)) ∙ stands_for f d there (once n.text) in
      let same : (t == t && number == number) ≡ true = grind (arith, nat_tests) in
      rw (no_library d there, first, same) (all_first t (number + 1) ns (λ x k. given x (inr k)))

  -- the names of an enumeration break no rule
  pub values_first : (t at : ℕ) (first : Named) (others : List Named) → specification_at f t ≡ Some (of_values at first others) → are_first f t 0 (first ∷ others) ≡ true
  values_first t at first others is =
      let r = specification_some f t (of_values at first others) is in
      all_first t 0 (first ∷ others) (λ d k. given_in 0 t (types_of f) r.0 d r.1
      (subst (λ s. IsIn d (names_in_specification (0 + t) s)) (sym r.2) (subst (λ j. IsIn d (names_of_values j 0 (first ∷ others))) (sym (zero-add t)) k)))

pub type_of : (o : Option Standing) → is_type o ≡ true → (t : ℕ) × (o ≡ Some (standings.Type t))
type_of None h = absurd (true≢false (sym h))
type_of (Some (standings.Type t)) h = (t, refl)
type_of (Some (standings.Value t k)) h = absurd (true≢false (sym h))
type_of (Some (standings.Pou p)) h = absurd (true≢false (sym h))

pub type_number-some : (o : Option Standing) (t : ℕ) → type_number o ≡ Some t → o ≡ Some (standings.Type t)
type_number-some None t h = absurd (let e : ⊥ = cc in e)
type_number-some (Some (standings.Type u)) t h = let e : u ≡ t = cc in ap (λ n. Some (standings.Type n)) e
type_number-some (Some (standings.Value u k)) t h = absurd (let e : ⊥ = cc in e)
type_number-some (Some (standings.Pou p)) t h = absurd (let e : ⊥ = cc in e)

-- ---- each step stays among the types

pub named_below : (f : FileData) (s : SpecificationData) (t : ℕ) → named_type f s ≡ Some t → t < length (types_of f)
named_below f (of_type (of_name n)) t h = standing_type f n.text t (type_number-some (standing f n.text) t h)
named_below f (of_type (of_elementary kind at)) t h = absurd (let e : ⊥ = cc in e)
named_below f (of_type (of_subrange kind at b)) t h = absurd (let e : ⊥ = cc in e)
named_below f (of_values at first others) t h = absurd (let e : ⊥ = cc in e)

pub step_below : (f : FileData) (t : ℕ) → t < length (types_of f) → step_from f t < length (types_of f)
step_below f t below = by (specification_at f t)
  where
    on : (s : SpecificationData) (o : Option ℕ) → named_type f s ≡ o → unwrap_or o t < length (types_of f)
    on s None e = below
    on s (Some u) e = named_below f s u e

    by : (o : Option SpecificationData) → unwrap_or (option_and_then (named_type f) o) t < length (types_of f)
    by None = below
    by (Some s) = on s (named_type f s) refl

steps_below : (n k : ℕ) (step : ℕ → ℕ) → ((t : ℕ) → t < n → step t < n) → (t : ℕ) → t < n → steps k step t < n
steps_below n zero step h t below = h t below
steps_below n (suc k) step h t below = steps_below n k step h (steps k step t) (steps_below n k step h t below)

pub end_below : (f : FileData) (t : ℕ) → t < length (types_of f) → end_of f t < length (types_of f)
unfolding end_of
end_below f t below = steps_below (length (types_of f)) doublings (step_from f) (step_below f) t below

-- ---- the end of a way leads on nowhere

same_test : (n : ℕ) → (n == n) ≡ true
same_test n = grind (arith, nat_tests)

ends_have : (f : FileData) (number i : ℕ) (ds : List TypeDeclarationData) → i < length ds → list_any (λ e. e == end_of f (number + i)) (ends_from f number ds) ≡ true
ends_have f number i [] below = absurd (omega arith)
ends_have f number zero (d ∷ ds) below = rw (add-zero, same_test (end_of f number)) refl
ends_have f number (suc i) (d ∷ ds) below =
    let same : number + suc i ≡ number + 1 + i = omega arith in
    ap (λ k. (end_of f number == end_of f k) || list_any (λ e. e == end_of f k) (ends_from f (number + 1) ds)) same
    ∙ ap (λ b. (end_of f number == end_of f (number + 1 + i)) || b) (ends_have f (number + 1) i ds (omega arith))
    ∙ or-true (end_of f number == end_of f (number + 1 + i))

pub specified : (f : FileData) (t : ℕ) → t < length (types_of f) → (s : SpecificationData) × (specification_at f t ≡ Some s)
specified f t below = by (slice_get (types_of f) t) refl
  where
    by : (o : Option TypeDeclarationData) → slice_get (types_of f) t ≡ o → (s : SpecificationData) × (option_map (λ d. d.specification) o ≡ Some s)
    by None e = absurd (let n = missing (types_of f) t below e in n)
      where
        missing : (ds : List TypeDeclarationData) (t : ℕ) → t < length ds → slice_get ds t ≡ None → ⊥
        missing [] t b h = omega arith
        missing (d ∷ ds) zero b h = cc
        missing (d ∷ ds) (suc t) b h = missing ds t (omega arith) h
    by (Some d) e = (d.specification, refl)

-- what no declaration of a type breaks
clean_at : (f : FileData) (number i : ℕ) (ds : List TypeDeclarationData) (d : TypeDeclarationData) → in_types f number ds ≡ [] → slice_get ds i ≡ Some d
    → ((if is_circular f (number + i) then circular d.name else ok).broken ≡ []) × ((in_specification f (number + i) d.specification).broken ≡ [])
clean_at f number i [] d h at = absurd (let e : ⊥ = cc in e)
clean_at f number i (x ∷ ds) d h at = by i at (λ j. clean_at f (number + 1) j ds d (nil_right (own ++ here) (in_types f (number + 1) ds) h))
  where
    own : List Refusal
    own = (if is_circular f number then circular x.name else ok).broken

    here : List Refusal
    here = (in_specification f number x.specification).broken

    front : own ++ here ≡ []
    front = nil_left (own ++ here) (in_types f (number + 1) ds) h

    by : (i : ℕ) → slice_get (x ∷ ds) i ≡ Some d → ((j : ℕ) → slice_get ds j ≡ Some d → ((if is_circular f (number + 1 + j) then circular d.name else ok).broken ≡ []) × ((in_specification f (number + 1 + j) d.specification).broken ≡ []))
        → ((if is_circular f (number + i) then circular d.name else ok).broken ≡ []) × ((in_specification f (number + i) d.specification).broken ≡ [])
    by zero k rest =
        let e : x ≡ d = cc in
        rw add-zero (subst (λ y. ((if is_circular f number then circular y.name else ok).broken ≡ []) × ((in_specification f number y.specification).broken ≡ [])) e (nil_left own here front, nil_right own here front))
    by (suc j) k rest = let same : number + suc j ≡ number + 1 + j = omega arith in rw same (rest j k)

not_circular : (n : Named) (b : Bool) → (if b then circular n else ok).broken ≡ [] → b ≡ false
not_circular n true h = absurd (let e : ⊥ = cc in e)
not_circular n false h = refl

pub clean_type : (f : FileData) → in_types f 0 (types_of f) ≡ [] → (t : ℕ) (s : SpecificationData) → specification_at f t ≡ Some s → (is_circular f t ≡ false) × ((in_specification f t s).broken ≡ [])
clean_type f h t s is =
    let r = specification_some f t s is in
    let k = clean_at f 0 t (types_of f) r.0 h r.1 in
    let same : 0 + t ≡ t = omega arith in
    let a = rw same at k in
    (not_circular r.0.name (is_circular f t) a.0, ap (λ x. (in_specification f t x).broken) (sym r.2) ∙ a.1)

pub stays : (f : FileData) → in_types f 0 (types_of f) ≡ [] → (t : ℕ) → t < length (types_of f) → next_of f (end_of f t) ≡ None
stays f h t below =
    let e = end_below f t below in
    let s = specified f (end_of f t) e in
    let round : is_circular f (end_of f t) ≡ false = (clean_type f h (end_of f t) s.0 s.1).0 in
    let same : 0 + t ≡ t = omega arith in
    let met : list_any (λ x. x == end_of f t) (ends_from f 0 (types_of f)) ≡ true = rw same at (ends_have f 0 t (types_of f) below) in
    by (next_of f (end_of f t)) (rw met at round)
  where
    by : (o : Option ℕ) → (is_some o && true) ≡ false → o ≡ None
    by None k = refl
    by (Some u) k = absurd (true≢false k)
