-- A number is written where a table was at most filled up with none.
use Rattle.std.proofs.Common.{◌≡◌, ℕ, ◌<◌, ◌/◌, List, [], ◌∷◌, ◌++◌, length, get_or, set, Bool, true, false, cond, Option, Some, None, refl, suc, zero, ◌∙◌}
use Rattle.std.specs.Prelude.{nat_eq, replicate}
use Rattle.std.proofs.lemmas.List.{get_or-set_other}
use Rattle.std.proofs.lemmas.Bool.{eqb-true, eqb-false}
use Rattle.std.proofs.lemmas.Grind.{get_or-set_at}
use Rattle.use_numbers.specs.UseNumbers.{IsKept}

none_read : (more k : ℕ) → get_or {A = Option ℕ} (replicate more None) k None ≡ None
none_read zero k = refl
none_read (suc more) zero = refl
none_read (suc more) (suc k) = none_read more k

-- filled up with none, a table has the same numbers
pub filled : (numbers : List (Option ℕ)) (more k : ℕ) → get_or (numbers ++ replicate more None) k None ≡ get_or numbers k None
filled [] more k = none_read more k
filled (n ∷ ns) more zero = refl
filled (n ∷ ns) more (suc k) = filled ns more k

-- a number is written where these are the numbers of the table before
pub written : (old new : List (Option ℕ)) (at number : ℕ) → ((k : ℕ) → get_or new k None ≡ get_or old k None) → at / 2 < length new → IsKept old at number (set new (at / 2) (Some number))
written old new at number same within other = by (nat_eq (other / 2) (at / 2)) refl
  where
    by : (b : Bool) → nat_eq (other / 2) (at / 2) ≡ b → get_or (set new (at / 2) (Some number)) (other / 2) None ≡ cond b (Some number) (get_or old (other / 2) None)
    by true e = get_or-set_at new (at / 2) (other / 2) (Some number) None (eqb-true (other / 2) (at / 2) e) within
    by false e = get_or-set_other new (at / 2) (other / 2) (Some number) None (eqb-false (other / 2) (at / 2) e) ∙ same (other / 2)
