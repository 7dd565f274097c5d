-- What stands among the names of a file.
use Rattle.std.proofs.Common.{◌≡◌, ◌⊎◌, inl, inr, ℕ, suc, ◌+◌, ◌<◌, ◌≤◌, List, [], ◌∷◌, ◌++◌, length, Bool, true, false, true≢false, Some, refl, sym, ap, ◌∙◌, subst, if◌then◌else◌, count_by, arith, add-zero, append_assoc}
use Rattle.std.specs.Cmp.Lexicographic.{bytes_decides}
use Rattle.source_tree.specs.Syntax.{TypeDeclarationData, types, pou, FileData}
use Rattle.naming.specs.declared.standing.Standing.{Standing}
use Rattle.naming.specs.declared.standing.Standing.TheVariants as standings
use Rattle.naming.specs.FileScope.{types_of, DeclaredName, names_in_specification, names_of_types, names_of_items, is_declared_as, first_standing}
use Rattle.naming.proofs.CountLemmas.{count-cons}
use Rattle.naming.proofs.TableLemmas.{same_declared}

abbrev pub IsIn : DeclaredName → List DeclaredName → Type 0
IsIn d [] = ⊥
IsIn d (x ∷ xs) = (d ≡ x) ⊎ IsIn d xs

pub in_left : (d : DeclaredName) (xs ys : List DeclaredName) → IsIn d xs → IsIn d (xs ++ ys)
in_left d [] ys h = absurd h
in_left d (x ∷ xs) ys (inl e) = inl e
in_left d (x ∷ xs) ys (inr k) = inr (in_left d xs ys k)

pub in_right : (d : DeclaredName) (xs ys : List DeclaredName) → IsIn d ys → IsIn d (xs ++ ys)
in_right d [] ys h = h
in_right d (x ∷ xs) ys h = inr (in_right d xs ys h)

pub in_split : (d : DeclaredName) (xs ys : List DeclaredName) → IsIn d (xs ++ ys) → IsIn d xs ⊎ IsIn d ys
in_split d [] ys h = inr h
in_split d (x ∷ xs) ys (inl e) = inl (inl e)
in_split d (x ∷ xs) ys (inr k) = elim (in_split d xs ys k) as (λ _. IsIn d (x ∷ xs) ⊎ IsIn d ys) [ inl l ↦ inl (inr l) | inr r ↦ inr r ]

-- ---- the names of types, among those of a file

types_append : (number : ℕ) (ds es : List TypeDeclarationData) → names_of_types number (ds ++ es) ≡ names_of_types number ds ++ names_of_types (number + length ds) es
types_append number [] es = rw add-zero refl
types_append number (d ∷ ds) es =
    let here = names_in_specification number d.specification in
    ap (λ ns. (d.name, standings.Type number) ∷ (here ++ ns)) (types_append (number + 1) ds es ∙ ap (λ k. names_of_types (number + 1) ds ++ names_of_types k es) (omega arith))
    ∙ ap (λ ns. (d.name, standings.Type number) ∷ ns) (sym (append_assoc here (names_of_types (number + 1) ds) (names_of_types (number + suc (length ds)) es)))

-- what stands for a POU
abbrev pub IsPouName : DeclaredName → Type 0
IsPouName d = (k : ℕ) × (d.1 ≡ standings.Pou k)

pub of_file : (d : DeclaredName) (number place : ℕ) (f : FileData) → IsIn d (names_of_items number place f) → IsPouName d ⊎ IsIn d (names_of_types number (types_of f))
of_file d number place [] h = absurd h
of_file d number place (types ds ∷ is) h = elim (in_split d (names_of_types number ds) (names_of_items (number + length ds) place is) h) as (λ _. IsPouName d ⊎ IsIn d (names_of_types number (ds ++ types_of is))) [
  | inl k ↦ inr (subst (IsIn d) (sym (types_append number ds (types_of is))) (in_left d (names_of_types number ds) (names_of_types (number + length ds) (types_of is)) k))
  | inr k ↦ elim (of_file d (number + length ds) place is k) as (λ _. IsPouName d ⊎ IsIn d (names_of_types number (ds ++ types_of is))) [
    | inl e ↦ inl e
    | inr r ↦ inr (subst (IsIn d) (sym (types_append number ds (types_of is))) (in_right d (names_of_types number ds) (names_of_types (number + length ds) (types_of is)) r))
  ]
]
of_file d number place (pou p ∷ is) (inl e) = inl (place, ap (λ x. x.1) e)
of_file d number place (pou p ∷ is) (inr k) = of_file d number (place + 1) is k

pub in_file_names : (d : DeclaredName) (number place : ℕ) (f : FileData) → IsIn d (names_of_types number (types_of f)) → IsIn d (names_of_items number place f)
in_file_names d number place [] h = absurd h
in_file_names d number place (types ds ∷ is) h = elim (in_split d (names_of_types number ds) (names_of_types (number + length ds) (types_of is)) (subst (IsIn d) (types_append number ds (types_of is)) h)) as (λ _. IsIn d (names_of_types number ds ++ names_of_items (number + length ds) place is)) [
  | inl k ↦ in_left d (names_of_types number ds) (names_of_items (number + length ds) place is) k
  | inr k ↦ in_right d (names_of_types number ds) (names_of_items (number + length ds) place is) (in_file_names d (number + length ds) place is k)
]
in_file_names d number place (pou p ∷ is) h = inr (in_file_names d number (place + 1) is h)

-- ---- a name and what it stands for

pub found_in : (q : List ℕ) (xs : List DeclaredName) (s : Standing) → first_standing q xs ≡ Some s → (d : DeclaredName) × IsIn d xs × (d.0.text ≡ q) × (d.1 ≡ s)
found_in q [] s h = absurd (let e : ⊥ = cc in e)
found_in q (x ∷ xs) s h = by (is_declared_as q x) refl (found_in q xs s) h
  where
    by : (b : Bool) → is_declared_as q x ≡ b → (first_standing q xs ≡ Some s → (d : DeclaredName) × IsIn d xs × (d.0.text ≡ q) × (d.1 ≡ s))
        → (if b then Some x.1 else first_standing q xs) ≡ Some s → (d : DeclaredName) × IsIn d (x ∷ xs) × (d.0.text ≡ q) × (d.1 ≡ s)
    by true e rest k = (x, inl refl, same_declared x q e, let i : x.1 ≡ s = cc in i)
    by false e rest k = let r = rest k in (r.0, inr r.1, r.2, r.3)

pub own_text : (d : DeclaredName) → is_declared_as d.0.text d ≡ true
own_text d = (bytes_decides d.0.text d.0.text).1 refl

pub counted : (d : DeclaredName) (xs : List DeclaredName) → IsIn d xs → 0 < count_by (is_declared_as d.0.text) xs
counted d [] h = absurd h
counted d (x ∷ xs) (inl e) =
    let here : is_declared_as d.0.text x ≡ true = ap (is_declared_as d.0.text) (sym e) ∙ own_text d in
    let n : count_by (is_declared_as d.0.text) (x ∷ xs) ≡ 1 + count_by (is_declared_as d.0.text) xs = count-cons (is_declared_as d.0.text) x xs ∙ ap (λ b. (if b then 1 else 0) + count_by (is_declared_as d.0.text) xs) here in
    omega arith
counted d (x ∷ xs) (inr k) =
    let rest = counted d xs k in
    let n = count-cons (is_declared_as d.0.text) x xs in
    omega arith

-- a name that is declared once stands for what it is declared as
pub first_of : (d : DeclaredName) (xs : List DeclaredName) → IsIn d xs → count_by (is_declared_as d.0.text) xs ≤ 1 → first_standing d.0.text xs ≡ Some d.1
first_of d [] h once = absurd h
first_of d (x ∷ xs) h once = by (is_declared_as d.0.text x) refl h (first_of d xs) (count-cons (is_declared_as d.0.text) x xs)
  where
    by : (b : Bool) → is_declared_as d.0.text x ≡ b → (d ≡ x) ⊎ IsIn d xs → (IsIn d xs → count_by (is_declared_as d.0.text) xs ≤ 1 → first_standing d.0.text xs ≡ Some d.1)
        → count_by (is_declared_as d.0.text) (x ∷ xs) ≡ (if b then 1 else 0) + count_by (is_declared_as d.0.text) xs
        → (if b then Some x.1 else first_standing d.0.text xs) ≡ Some d.1
    by true e (inl is) rest n = ap (λ y. Some y.1) (sym is)
    by true e (inr k) rest n = let m = counted d xs k in absurd (omega arith)
    by false e (inl is) rest n = absurd (true≢false (sym (own_text d) ∙ ap (is_declared_as d.0.text) is ∙ e))
    by false e (inr k) rest n = rest k (omega arith)
