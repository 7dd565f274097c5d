-- A result that is kept in 128 bits before it is wrapped to its type, of 64 bits at most.
use Rattle.std.proofs.Common.{◌≡◌, ◌≢◌, ℕ, ℤ, pos, negsuc, neg_ℤ, zero, suc, ◌<◌, ◌≤◌, ◌^◌, ◌/◌, ap, refl, arith}
use Rattle.std.proofs.Math.Nat.{div-le_self, div-lt_self}
use Rattle.std.specs.Prelude.{int_div, FitsSigned}
use Rattle.std.proofs.lemmas.Int.{ints, quot_fits, fits_signed_from_abs}
use Rattle.std.specs.Int.{w128, int_wrap}
use Rattle.num_core.specs.Division.{quot}
use Rattle.num_core.proofs.Multiples.{wrap_kept_wide}
use Rattle.plc_types.specs.declared.elementary.Elementary.{Elementary}
use Rattle.plc_types.specs.Types.{width_of, is_signed, wrap_to}
use Rattle.meaning.specs.Values.{or_zero}
use Rattle.plc_types.proofs.Widths.{some_bits, at_most_64_bits}

pub kept_wide : (t : Elementary) (v : ℤ) → wrap_to t (int_wrap w128 v) ≡ wrap_to t v
kept_wide t v = let few : width_of t ≤ 128 = omega (arith, at_most_64_bits t) in wrap_kept_wide (width_of t) (is_signed t) v (some_bits t) few

-- ---- quotients

whole : (n : ℕ) → n / 1 ≡ n
whole n = omega arith

-- a quotient by -1 is the negation
pub quotient_by_minus_one : (v : ℤ) → or_zero (quot v (negsuc 0)) ≡ neg_ℤ v
quotient_by_minus_one (pos n) = ap (λ m. neg_ℤ (pos m)) (whole n)
quotient_by_minus_one (negsuc n) = ap pos (whole (suc n))

pub quotient_of : (v w : ℤ) → w ≢ pos 0 → or_zero (quot v w) ≡ int_div v w
quotient_of v (pos zero) some = absurd (some refl)
quotient_of v (pos (suc n)) some = refl
quotient_of v (negsuc n) some = refl

negated_fits : (n : ℕ) → n < 2 ^ 127 → FitsSigned w128 (neg_ℤ (pos n))
negated_fits zero small = fits_signed_from_abs w128 (pos 0) small
negated_fits (suc n) small = fits_signed_from_abs w128 (negsuc n) small

least_bound : (n : ℕ) → FitsSigned w128 (negsuc n) → suc n ≤ 2 ^ 127
least_bound n fits = omega (arith, ints, fits)

greatest_bound : (n : ℕ) → FitsSigned w128 (pos n) → n < 2 ^ 127
greatest_bound n fits = omega (arith, ints, fits)

-- any other quotient of numbers of 128 bits is one
pub quotient_fits : (v w : ℤ) → FitsSigned w128 v → w ≢ pos 0 → w ≢ negsuc 0 → FitsSigned w128 (int_div v w)
quotient_fits v (pos zero) fits some other = absurd (some refl)
quotient_fits v (pos (suc n)) fits some other = quot_fits w128 v (pos (suc n)) fits (omega (arith, ints))
quotient_fits v (negsuc zero) fits some other = absurd (other refl)
quotient_fits (pos a) (negsuc (suc b)) fits some other =
    let near : a / suc (suc b) ≤ a = div-le_self a (suc (suc b)) in
    let low = greatest_bound a fits in
    negated_fits (a / suc (suc b)) (omega (arith, near, low))
quotient_fits (negsuc a) (negsuc (suc b)) fits some other =
    let near : suc a / suc (suc b) < suc a = div-lt_self (omega arith) (omega arith) in
    let low = least_bound a fits in
    fits_signed_from_abs w128 (pos (suc a / suc (suc b))) (omega (arith, near, low))
