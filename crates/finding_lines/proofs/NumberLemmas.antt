-- How large the numbers of a finding are.
use Rattle.std.proofs.Common.{◌≡◌, ◌≢◌, ℕ, suc, ◌<◌, ◌≤◌, ◌^◌, ℤ, pos, negsuc, List, ◌∷◌, ap, sym, subst, arith, drop}
use Rattle.std.specs.Int.{w128}
use Rattle.std.specs.Int.RustNames.{FitsSigned}
use Rattle.std.specs.Fmt.{decimal, signed_decimal}
use Rattle.std.specs.Str.Parse.{AllDigits}
use Rattle.std.proofs.lemmas.Int.{ints}
use Rattle.std.proofs.lemmas.Str.Parse.{digit_from_value}
use Rattle.std.proofs.lemmas.Fmt.{decimal_is_IsNumeral, decimal_injective}
use Rattle.finding_lines.specs.Numbers.{IsNumber}

pub number-below : (n : ℕ) → IsNumber (pos n) → n < 2 ^ 64
number-below n h = let below = h.below in omega (arith, ints)

pub number-from : (n : ℕ) → IsNumber (negsuc n) → suc n ≤ 2 ^ 63
number-from n h = let from = h.from in omega (arith, ints)

pub is-number : (n : ℕ) → n < 2 ^ 64 → IsNumber (pos n)
is-number n h = record { from = omega (arith, ints); below = omega (arith, ints) }

pub is-negative : (n : ℕ) → suc n ≤ 2 ^ 63 → IsNumber (negsuc n)
is-negative n h = record { from = omega (arith, ints); below = omega (arith, ints) }

-- a program can hold such a number
pub number-fits : (n : ℤ) → IsNumber n → FitsSigned w128 n
number-fits (pos n) h = let below = number-below n h in record { sfits = omega arith }
number-fits (negsuc n) h = let from = number-from n h in record { sfits = omega arith }

no-minus : (n : ℕ) (ds : List ℕ) → n < 2 ^ 64 → decimal n ≢ 45 ∷ ds
no-minus n ds h e = omega (arith, digit_from_value 45 (subst (AllDigits 10) e (decimal_is_IsNumeral n h).0.1).0)

-- numbers of a finding with one spelling are equal
pub number-spelling : (m n : ℤ) → IsNumber m → IsNumber n → signed_decimal m ≡ signed_decimal n → m ≡ n
number-spelling (pos m) (pos n) fm fn e = ap pos (decimal_injective m n (number-below m fm) (number-below n fn) e)
number-spelling (pos m) (negsuc n) fm fn e = absurd (no-minus m _ (number-below m fm) e)
number-spelling (negsuc m) (pos n) fm fn e = absurd (no-minus n _ (number-below n fn) (sym e))
number-spelling (negsuc m) (negsuc n) fm fn e =
    let one = number-from m fm in
    let two = number-from n fn in
    ap negsuc (omega (arith, decimal_injective (suc m) (suc n) (omega arith) (omega arith) (ap (drop 1) e)))
