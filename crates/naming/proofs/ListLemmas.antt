-- One more item of a file.
use Rattle.std.proofs.Common.{◌≡◌, ℕ, ◌+◌, List, [], ◌∷◌, ◌++◌, length, map, refl, sym, ap, ◌∙◌, add-zero, append_assoc, length-append}
use Rattle.std.proofs.lemmas.List.{append-nil, length-map}
use Rattle.source_tree.specs.Syntax.{ItemData, types, pou, FileData}
use Rattle.naming.specs.FileScope.{types_of, pous_of, DeclaredName, names_of_types, names_of_items}

pub types_more : (x : ItemData) (r : FileData) → types_of (x ∷ r) ≡ types_of (x ∷ []) ++ types_of r
types_more (types ds) r = ap (λ es. es ++ types_of r) (sym (append-nil ds))
types_more (pou p) r = refl

pub pous_more : (x : ItemData) (r : FileData) → pous_of (x ∷ r) ≡ pous_of (x ∷ []) ++ pous_of r
pous_more (types ds) r = refl
pous_more (pou p) r = refl

items_more : (t k : ℕ) (x : ItemData) (r : FileData) → names_of_items t k (x ∷ r) ≡ names_of_items t k (x ∷ []) ++ names_of_items (t + length (types_of (x ∷ []))) (k + length (pous_of (x ∷ []))) r
items_more t k (types ds) r =
    ap (λ ns. ns ++ names_of_items (t + length ds) k r) (sym (append-nil (names_of_types t ds)))
    ∙ ap (λ es. (names_of_types t ds ++ []) ++ names_of_items (t + length es) k r) (sym (append-nil ds))
    ∙ ap (λ j. (names_of_types t ds ++ []) ++ names_of_items (t + length (ds ++ [])) j r) (sym (add-zero k))
items_more t k (pou p) r = ap (λ j. names_of_items t k (pou p ∷ []) ++ names_of_items j (k + 1) r) (sym (add-zero t))

pub names_more : (xs ys all : List DeclaredName) (t k t2 k2 : ℕ) (x : ItemData) (r : FileData) → ys ≡ xs ++ names_of_items t k (x ∷ []) → t2 ≡ t + length (types_of (x ∷ [])) → k2 ≡ k + length (pous_of (x ∷ []))
    → xs ++ names_of_items t k (x ∷ r) ≡ all → ys ++ names_of_items t2 k2 r ≡ all
names_more xs ys all t k t2 k2 x r new more later known =
    ap (λ ns. ns ++ names_of_items t2 k2 r) new ∙ ap (λ j. (xs ++ names_of_items t k (x ∷ [])) ++ names_of_items j k2 r) more
    ∙ ap (λ j. (xs ++ names_of_items t k (x ∷ [])) ++ names_of_items (t + length (types_of (x ∷ []))) j r) later
    ∙ append_assoc xs (names_of_items t k (x ∷ [])) (names_of_items (t + length (types_of (x ∷ []))) (k + length (pous_of (x ∷ []))) r)
    ∙ ap (λ ns. xs ++ ns) (sym (items_more t k x r)) ∙ known

-- the length of a list whose data are known
pub viewed_length : {A B : Type 0} (view : A → B) (xs ys : List A) (bs : List B) → map view ys ≡ map view xs ++ bs → length ys ≡ length xs + length bs
viewed_length view xs ys bs h = sym (length-map ys view) ∙ ap length h ∙ length-append (map view xs) bs ∙ ap (λ n. n + length bs) (length-map xs view)

pub then_more : {A : Type 0} (xs ys own rest all : List A) → ys ≡ xs ++ own → xs ++ (own ++ rest) ≡ all → ys ++ rest ≡ all
then_more xs ys own rest all new known = ap (λ zs. zs ++ rest) new ∙ append_assoc xs own rest ∙ known
