-- Rows of one width in a list of numbers: how many they are, each of them, and one more.
use Rattle.std.proofs.Common.{◌≡◌, ℕ, zero, suc, ◌+◌, ◌*◌, ◌<◌, ◌≤◌, List, [], ◌∷◌, ◌++◌, length, take, drop, ℤ, Some, refl, sym, ap, ap₂, ◌∙◌, arith}
use Rattle.std.specs.Prelude.{slice_get}
use Rattle.std.proofs.lemmas.List.{length-append, length-drop, take_all, take-append-le, drop-append-le, drop-drop, nil_from_length}
use Rattle.trace_rows.specs.Rows.{rows_of}

pub length-rows_of : (width count : ℕ) (zs : List ℤ) → length (rows_of width count zs) ≡ count
length-rows_of width zero zs = refl
length-rows_of width (suc count) zs = ap suc (length-rows_of width count (drop width zs))

pub row_at : (width count : ℕ) (zs : List ℤ) (place : ℕ) → place < count → slice_get (rows_of width count zs) place ≡ Some (take width (drop (place * width) zs))
row_at width zero zs place h = absurd (omega arith)
row_at width (suc count) zs zero h = let none : zero * width ≡ 0 = omega arith in ap (λ k. Some (take width (drop k zs))) (sym none)
row_at width (suc count) zs (suc place) h =
    let less : place < count = omega arith in
    let further : width + place * width ≡ suc place * width = grind arith in
    row_at width count (drop width zs) place less ∙ ap (λ r. Some (take width r)) (drop-drop (place * width) width zs) ∙ ap (λ k. Some (take width (drop k zs))) further

-- a row lies within the numbers
pub row_within : (width count place n : ℕ) → place < count → n ≡ count * width → place * width + width ≤ n
row_within width count place n h e = grind arith

pub one_more_row : (width count : ℕ) (zs row : List ℤ) → length zs ≡ count * width → length row ≡ width → rows_of width (suc count) (zs ++ row) ≡ rows_of width count zs ++ row ∷ []
one_more_row width zero [] row e w = ap (λ r. r ∷ []) (take_all width row (omega arith))
one_more_row width zero (z ∷ zs) row e w = absurd (omega arith)
one_more_row width (suc count) zs row e w =
    let wide : length zs ≡ width + count * width = grind arith in
    let within : width ≤ length zs = omega arith in
    let rest : length (drop width zs) ≡ count * width = omega (arith, length-drop width zs) in
    ap₂ (λ r rs. r ∷ rs) (take-append-le width zs row within) (ap (rows_of width (suc count)) (drop-append-le width zs row within) ∙ one_more_row width count (drop width zs) row rest w)

pub one_more : (width count : ℕ) → (count + 1) * width ≡ count * width + width
one_more width count = grind arith
