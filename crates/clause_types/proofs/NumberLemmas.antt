-- The enumerations of NEW by their numbers.
use Rattle.std.proofs.Common.{◌≡◌, ℕ, zero, suc, ◌+◌, List, [], ◌∷◌, ◌++◌, refl, sym, ap, ◌∙◌, append_assoc, arith}
use Rattle.std.specs.Prelude.{slice_get, unwrap_or}
use Rattle.plc_types.specs.declared.data_type.DataType.{DataType}
use Rattle.plc_types.specs.declared.data_type.DataType.TheVariants.{Unknown, Enumeration}
use Rattle.plc_types.specs.Enumerations.{paired_number, paired_type}
use Rattle.clause_types.specs.PairedNumbers.{paired_numbers}

-- one more, and then those that are left
pub one_more_number : (old : List (List (List ℕ))) (done more : List DataType) (kind : DataType) (number : ℕ) (names : List (List ℕ)) (rest left : List (List (List ℕ))) (all : List DataType)
    → more ≡ done ++ kind ∷ [] → kind ≡ paired_number old number names → left ≡ names ∷ rest → done ++ paired_numbers old number left ≡ all → more ++ paired_numbers old (number + 1) rest ≡ all
one_more_number old done more kind number names rest left all is same listed whole =
    let behind : List DataType = paired_numbers old (number + 1) rest in
    ap (λ (ks : List DataType). ks ++ behind) is ∙ append_assoc done (kind ∷ []) behind ∙ ap (λ (k : DataType). done ++ k ∷ behind) same
    ∙ ap (λ (l : List (List (List ℕ))). done ++ paired_numbers old number l) (sym listed) ∙ whole

from_number : (old types : List (List (List ℕ))) (first place : ℕ) → unwrap_or (slice_get (paired_numbers old first types) place) Unknown ≡ paired_number old (first + place) (unwrap_or (slice_get types place) [])
from_number old [] first place = refl
from_number old (ns ∷ rest) first zero = ap (λ n. paired_number old n ns) (let e : first ≡ first + 0 = omega arith in e)
from_number old (ns ∷ rest) first (suc place) =
    from_number old rest (first + 1) place
    ∙ ap (λ n. paired_number old n (unwrap_or (slice_get rest place) [])) (let e : first + 1 + place ≡ first + suc place = omega arith in e)

-- the one of a number is its type in the pair
pub at_number : (old types : List (List (List ℕ))) (number : ℕ) → unwrap_or (slice_get (paired_numbers old 0 types) number) Unknown ≡ paired_type old types (Enumeration number)
at_number old types number =
    from_number old types 0 number ∙ ap (λ n. paired_number old n (unwrap_or (slice_get types number) [])) (let e : 0 + number ≡ number = omega arith in e)
