-- The numbers of declarations.
use Rattle.std.proofs.Common.{◌≡◌, inl, inr, ℕ, ◌+◌, ◌<◌, ◌≤◌, List, [], ◌∷◌, length, Some, sym, ap, ◌∙◌, arith, length-append}
use Rattle.source_tree.specs.Syntax.{TypeDeclarationData, types, pou, FileData}
use Rattle.naming.specs.declared.standing.Standing.TheVariants as standings
use Rattle.naming.specs.FileScope.{types_of, pous_of, DeclaredName, names_in_specification, names_of_types, names_of_items, names_of, standing}
use Rattle.naming.proofs.NameLemmas.{IsIn, in_split, found_in}
use Rattle.naming.proofs.ValueLemmas.{in_specification, standing_some}

-- ---- the number of a POU that a name stands for

type_is_no_pou : (d : DeclaredName) (number p : ℕ) (ds : List TypeDeclarationData) → IsIn d (names_of_types number ds) → d.1 ≡ standings.Pou p → ⊥
type_is_no_pou d number p [] h e = h
type_is_no_pou d number p (x ∷ ds) (inl is) e = let i = sym (ap (λ y. y.1) is) ∙ e in cc
type_is_no_pou d number p (x ∷ ds) (inr k) e = elim (in_split d (names_in_specification number x.specification) (names_of_types (number + 1) ds) k) as (λ _. ⊥) [
  | inl v ↦ let r = (in_specification d number x.specification v).1 in let i : ⊥ = cc in i
  | inr r ↦ type_is_no_pou d (number + 1) p ds r e
]

pou_below : (d : DeclaredName) (number place p : ℕ) (f : FileData) → IsIn d (names_of_items number place f) → d.1 ≡ standings.Pou p → p < place + length (pous_of f)
pou_below d number place p [] h e = absurd h
pou_below d number place p (types ds ∷ is) h e = elim (in_split d (names_of_types number ds) (names_of_items (number + length ds) place is) h) as (λ _. p < place + length (pous_of is)) [
  | inl k ↦ absurd (type_is_no_pou d number p ds k e)
  | inr k ↦ pou_below d (number + length ds) place p is k e
]
pou_below d number place p (pou x ∷ is) (inl h) e = let same : place ≡ p = (let i = sym (ap (λ y. y.1) h) ∙ e in cc) in omega arith
pou_below d number place p (pou x ∷ is) (inr k) e = let b = pou_below d number (place + 1) p is k e in omega arith

pub standing_pou : (f : FileData) (q : List ℕ) (p : ℕ) → standing f q ≡ Some (standings.Pou p) → p < length (pous_of f)
standing_pou f q p h =
    let r = found_in q (names_of f) (standings.Pou p) (standing_some f q (standings.Pou p) h) in
    let b = pou_below r.0 0 0 p f r.1 r.3 in omega arith

-- ---- a file has as many names as types and POUs at least

types_named : (number : ℕ) (ds : List TypeDeclarationData) → length ds ≤ length (names_of_types number ds)
types_named number [] = omega arith
types_named number (d ∷ ds) =
    let rest = types_named (number + 1) ds in
    let l = length-append (names_in_specification number d.specification) (names_of_types (number + 1) ds) in
    omega arith

pub all_named : (number place : ℕ) (f : FileData) → length (types_of f) + length (pous_of f) ≤ length (names_of_items number place f)
all_named number place [] = omega arith
all_named number place (types ds ∷ is) =
    let here = types_named number ds in
    let rest = all_named (number + length ds) place is in
    let l = length-append (names_of_types number ds) (names_of_items (number + length ds) place is) in
    let k = length-append ds (types_of is) in
    omega arith
all_named number place (pou p ∷ is) = let rest = all_named number (place + 1) is in omega arith
