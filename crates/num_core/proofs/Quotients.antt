-- Division that truncates has one answer.
use Rattle.std.proofs.Common.{◌≡◌, ◌≢◌, ℕ, zero, suc, ◌<◌, arith, refl, sym, ◌∙◌, ap, inl, inr, ◌%◌, subst}
use Rattle.std.proofs.Math.IntN.{ℤ, pos, negsuc, ◌+ℤ◌, ◌-ℤ◌, ◌*ℤ◌, neg_ℤ}
use Rattle.std.specs.Prelude.{unsigned_abs, int_div, int_rem, ◌<ℤ◌, ◌≤ℤ◌}
use Rattle.std.proofs.lemmas.Int.{ints, by_lt_z, quot-rem, rem_below}
use Rattle.num_core.specs.Division.{Divides, IsZeroOrOfSign, IsQuotient, IsRemainder}
use Rattle.num_core.proofs.Products.{same_multiple, abs_below}

nonzero_abs : (b : ℤ) → b ≢ pos 0 → 0 < unsigned_abs b
nonzero_abs (pos zero) other = absurd (other refl)
nonzero_abs (pos (suc n)) other = omega arith
nonzero_abs (negsuc n) other = omega arith

not_negative : (a n : ℕ) → IsZeroOrOfSign (pos a) (pos n)
not_negative a n = inr (λ h. absurd (omega (arith, ints)), λ h. absurd (omega (arith, ints)))

negative : (a n : ℕ) → IsZeroOrOfSign (negsuc a) (neg_ℤ (pos n))
negative a zero = inl refl
negative a (suc n) = inr (λ h. omega (arith, ints), λ h. omega (arith, ints))

rem_sign : (a b : ℤ) → IsZeroOrOfSign a (int_rem a b)
rem_sign (pos a) b = not_negative a (a % unsigned_abs b)
rem_sign (negsuc a) b = negative a (suc a % unsigned_abs b)

-- the truncated quotient and remainder are a division
pub divides : (a b : ℤ) → b ≢ pos 0 → Divides a b (int_div a b) (int_rem a b)
divides a b other = record {
  whole = sym (quot-rem a b);
  near = rem_below a b (nonzero_abs b other);
  sign = rem_sign a b;
}

below_abs : (z : ℤ) → z ≤ℤ pos (unsigned_abs z)
below_abs (pos n) = omega (arith, ints)
below_abs (negsuc n) = omega (arith, ints)

above_abs : (z : ℤ) → neg_ℤ (pos (unsigned_abs z)) ≤ℤ z
above_abs (pos n) = omega (arith, ints)
above_abs (negsuc n) = omega (arith, ints)

minus_zero : (z : ℤ) → z -ℤ pos 0 ≡ z
minus_zero z = omega (arith, ints)

zero_minus : (z : ℤ) (d : ℕ) → unsigned_abs z < d → unsigned_abs (pos 0 -ℤ z) < d
zero_minus z d p = abs_below (pos 0 -ℤ z) d (omega (arith, ints, above_abs z)) (omega (arith, ints, below_abs z))

both_negative : (x y : ℤ) (d : ℕ) → x <ℤ pos 0 → y <ℤ pos 0 → unsigned_abs x < d → unsigned_abs y < d → unsigned_abs (y -ℤ x) < d
both_negative x y d s t p q = abs_below (y -ℤ x) d (omega (arith, ints, above_abs x, above_abs y)) (omega (arith, ints, above_abs x, above_abs y))

none_negative : (x y : ℤ) (d : ℕ) → pos 0 ≤ℤ x → pos 0 ≤ℤ y → unsigned_abs x < d → unsigned_abs y < d → unsigned_abs (y -ℤ x) < d
none_negative x y d s t p q = abs_below (y -ℤ x) d (omega (arith, ints, below_abs x, below_abs y)) (omega (arith, ints, below_abs x, below_abs y))

one_side : (x y : ℤ) (d : ℕ) → (y <ℤ pos 0 → x <ℤ pos 0) → (x <ℤ pos 0 → y <ℤ pos 0) → unsigned_abs x < d → unsigned_abs y < d → unsigned_abs (y -ℤ x) < d
one_side x y d back forth p q =
    by_lt_z x (pos 0) (λ h. both_negative x y d h (forth h) p q)
    (λ h. by_lt_z y (pos 0) (λ k. both_negative x y d (back k) k p q) (λ k. none_negative x y d h k p q))

-- numbers nearer to zero than d and of one sign are closer to each other than d
close : (a x y : ℤ) (d : ℕ) → IsZeroOrOfSign a x → IsZeroOrOfSign a y → unsigned_abs x < d → unsigned_abs y < d → unsigned_abs (y -ℤ x) < d
close a x y d (inl s) t p q = subst (λ (z : ℤ). unsigned_abs (y -ℤ z) < d) (sym s) (rw (minus_zero y) q)
close a x y d (inr s) (inl t) p q = subst (λ (z : ℤ). unsigned_abs (z -ℤ x) < d) (sym t) (zero_minus x d p)
close a x y d (inr s) (inr t) p q = one_side x y d (λ h. s.1 (t.0 h)) (λ h. t.1 (s.0 h)) p q

-- there is one quotient
pub same_quotient : (a b q r p s : ℤ) → Divides a b q r → Divides a b p s → q ≡ p
same_quotient a b q r p s one other =
    same_multiple q p b r s (sym one.whole ∙ other.whole) (close a r s (unsigned_abs b) one.sign other.sign one.near other.near)

-- and one remainder
pub same_remainder : (a b q r p s : ℤ) → Divides a b q r → Divides a b p s → r ≡ s
same_remainder a b q r p s one other =
    left_over (q *ℤ b) r s (sym one.whole ∙ other.whole ∙ ap (λ (z : ℤ). (z *ℤ b) +ℤ s) (sym (same_quotient a b q r p s one other)))
  where
    left_over : (m x y : ℤ) → m +ℤ x ≡ m +ℤ y → x ≡ y
    left_over m x y e = omega (arith, ints)

-- the answer of the code, and that there is no other
pub quotient_is : (a b t : ℤ) → b ≢ pos 0 → t ≡ int_div a b → IsQuotient a b t
quotient_is a b t other e = (int_rem a b, rw e (divides a b other))

pub only_quotient : (a b t : ℤ) → b ≢ pos 0 → t ≡ int_div a b → (n : ℤ) → IsQuotient a b n → n ≡ t
only_quotient a b t other e n is = same_quotient a b n is.0 (int_div a b) (int_rem a b) is.1 (divides a b other) ∙ sym e

pub remainder_is : (a b t : ℤ) → b ≢ pos 0 → t ≡ int_rem a b → IsRemainder a b t
remainder_is a b t other e = (int_div a b, rw e (divides a b other))

pub only_remainder : (a b t : ℤ) → b ≢ pos 0 → t ≡ int_rem a b → (n : ℤ) → IsRemainder a b n → n ≡ t
only_remainder a b t other e n is = same_remainder a b is.0 n (int_div a b) (int_rem a b) is.1 (divides a b other) ∙ sym e
