-- There is one number that wraps another, and it is the least one plus a remainder.
use Rattle.std.proofs.Common.{◌≡◌, ℕ, ◌+◌, ◌-◌, ◌*◌, ◌/◌, ◌%◌, ◌^◌, ◌<◌, Bool, true, false, arith, ◌∙◌, ap}
use Rattle.std.proofs.Math.IntN.{ℤ, pos, negsuc, ◌+ℤ◌, ◌-ℤ◌, ◌*ℤ◌}
use Rattle.std.specs.Prelude.{unsigned_abs, ◌<ℤ◌, ◌≤ℤ◌}
use Rattle.std.specs.Int.{int_rem_euclid}
use Rattle.std.proofs.lemmas.Int.{ints}
use Rattle.std.proofs.lemmas.Nat.{pow_pos, pow-add}
use Rattle.num_core.specs.Ranges.{lowest, highest, Fits}
use Rattle.num_core.specs.Wrapping.{wrap, Wraps, DiffersByMultiple}
use Rattle.num_core.proofs.Products.{add-mul, same_multiple, abs_below}

over : (a m q r : ℕ) → a ≡ q * m + r → pos a ≡ pos r +ℤ (pos q *ℤ pos m)
over a m q r e = omega (arith, ints)

under : (a m q r : ℕ) → a ≡ q * m + r → r < m → negsuc a ≡ pos (m - 1 - r) +ℤ (negsuc q *ℤ pos m)
under a m q r e small = omega (arith, ints)

-- a number differs from its remainder by a multiple
pub remainder_differs : (z : ℤ) (m : ℕ) → 0 < m → DiffersByMultiple (pos m) z (int_rem_euclid z (pos m))
remainder_differs (pos a) m some = (pos (a / m), over a m (a / m) (a % m) (omega arith))
remainder_differs (negsuc a) m some = (negsuc (a / m), under a m (a / m) (a % m) (omega arith) (omega arith))

pub remainder_not_negative : (z : ℤ) (m : ℕ) → pos 0 ≤ℤ int_rem_euclid z (pos m)
remainder_not_negative (pos a) m = omega (arith, ints)
remainder_not_negative (negsuc a) m = omega (arith, ints)

pub remainder_below : (z : ℤ) (m : ℕ) → 0 < m → int_rem_euclid z (pos m) <ℤ pos m
remainder_below (pos a) m some = omega (arith, ints)
remainder_below (negsuc a) m some = omega (arith, ints)

two_halves : (w : ℕ) → 0 < w → 2 ^ w ≡ 2 ^ (w - 1) + 2 ^ (w - 1)
two_halves w some = let e : w ≡ (w - 1) + 1 = omega arith in ap (λ n. 2 ^ n) e ∙ (pow-add 2 (w - 1) 1 ∙ omega arith)

-- a width and sign has 2 to the width numbers
span : (w : ℕ) (signed : Bool) → 0 < w → highest w signed ≡ lowest w signed +ℤ pos (2 ^ w - 1)
span w true some = omega (arith, ints, two_halves w some, pow_pos (w - 1))
span w false some = omega (arith, ints)

close : (lo hi a b : ℤ) (m : ℕ) → hi ≡ lo +ℤ pos (m - 1) → 0 < m → Fits lo hi a → Fits lo hi b → unsigned_abs (b -ℤ a) < m
close lo hi a b m e some p q = abs_below (b -ℤ a) m (omega (arith, ints)) (omega (arith, ints))

turned : (v a b s t : ℤ) → v ≡ a +ℤ s → v ≡ b +ℤ t → s +ℤ a ≡ t +ℤ b
turned v a b s t e f = omega (arith, ints)

same_left : (v a b s t : ℤ) → v ≡ a +ℤ s → v ≡ b +ℤ t → s ≡ t → a ≡ b
same_left v a b s t e f g = omega (arith, ints)

-- one number wraps another
pub same_wrapped : (w : ℕ) (signed : Bool) (v a b : ℤ) → 0 < w → Wraps w signed v a → Wraps w signed v b → a ≡ b
same_wrapped w signed v a b some one other =
    let m : ℤ = pos (2 ^ w) in
    let near = close (lowest w signed) (highest w signed) a b (2 ^ w) (span w signed some) (pow_pos w) one.in_range other.in_range in
    let again = same_multiple one.by_multiple.0 other.by_multiple.0 m a b (turned v a b _ _ one.by_multiple.1 other.by_multiple.1) near in
    same_left v a b _ _ one.by_multiple.1 other.by_multiple.1 (ap (λ (k : ℤ). k *ℤ m) again)

moved : (v lo r s : ℤ) → v -ℤ lo ≡ r +ℤ s → v ≡ (lo +ℤ r) +ℤ s
moved v lo r s e = omega (arith, ints)

-- the defined number wraps
pub wraps_defined : (w : ℕ) (signed : Bool) (v : ℤ) → 0 < w → Wraps w signed v (wrap w signed v)
wraps_defined w signed v some =
    let least = lowest w signed in
    let rest = v -ℤ least in
    let low = remainder_not_negative rest (2 ^ w) in
    let high = remainder_below rest (2 ^ w) (pow_pos w) in
    let differs = remainder_differs rest (2 ^ w) (pow_pos w) in
    let all = span w signed some in
    record {
      in_range = in_span _ _ _ (2 ^ w) all low high;
      by_multiple = (differs.0, moved v least _ _ differs.1);
    }
  where
    in_span : (lo hi r : ℤ) (m : ℕ) → hi ≡ lo +ℤ pos (m - 1) → pos 0 ≤ℤ r → r <ℤ pos m → Fits lo hi (lo +ℤ r)
    in_span lo hi r m e p q = (omega (arith, ints), omega (arith, ints))

-- what wraps a number is the defined number
pub wrap_is : (w : ℕ) (signed : Bool) (v n : ℤ) → 0 < w → Wraps w signed v n → n ≡ wrap w signed v
wrap_is w signed v n some wraps = same_wrapped w signed v n (wrap w signed v) some wraps (wraps_defined w signed v some)

low_half : (w : ℕ) (signed : Bool) (r : ℤ) → 0 < w → pos 0 ≤ℤ r → lowest w signed ≤ℤ r
low_half w true r some p = omega (arith, ints)
low_half w false r some p = p

-- a remainder in the range wraps
pub remainder_wraps : (w : ℕ) (signed : Bool) (v r : ℤ) → 0 < w → r ≡ int_rem_euclid v (pos (2 ^ w)) → r ≤ℤ highest w signed → Wraps w signed v r
remainder_wraps w signed v r some e within = record {
  in_range = (low_half w signed r some (rw e (remainder_not_negative v (2 ^ w))), within);
  by_multiple = rw e (remainder_differs v (2 ^ w) (pow_pos w));
}

high_half : (w : ℕ) (signed : Bool) (r : ℤ) → 0 < w → highest w signed <ℤ r → r <ℤ pos (2 ^ w) → Fits (lowest w signed) (highest w signed) (r -ℤ pos (2 ^ w))
high_half w true r some p q = (omega (arith, ints, two_halves w some, pow_pos (w - 1)), omega (arith, ints, two_halves w some, pow_pos (w - 1)))
high_half w false r some p q = absurd (omega (arith, ints))

once_more : (v r k m s : ℤ) → v ≡ r +ℤ k → s ≡ k +ℤ m → v ≡ (r -ℤ m) +ℤ s
once_more v r k m s e f = omega (arith, ints)

one_times : (m : ℕ) → pos 1 *ℤ pos m ≡ pos m
one_times m = ap pos (omega arith)

-- a remainder above the range wraps less 2 to the width
pub remainder_less_wraps : (w : ℕ) (signed : Bool) (v r : ℤ) → 0 < w → r ≡ int_rem_euclid v (pos (2 ^ w)) → highest w signed <ℤ r → Wraps w signed v (r -ℤ pos (2 ^ w))
remainder_less_wraps w signed v r some e above =
    let m : ℤ = pos (2 ^ w) in
    let differs : DiffersByMultiple m v r = rw e (remainder_differs v (2 ^ w) (pow_pos w)) in
    record {
      in_range = high_half w signed r some above (rw e (remainder_below v (2 ^ w) (pow_pos w)));
      by_multiple = (differs.0 +ℤ pos 1, once_more v r (differs.0 *ℤ m) m _ differs.1 (add-mul differs.0 (pos 1) m ∙ ap (λ (x : ℤ). (differs.0 *ℤ m) +ℤ x) (one_times (2 ^ w))));
    }

-- the answer of the code in each case
pub below_wraps : (w : ℕ) (signed : Bool) (v r t : ℤ) → 0 < w → r ≡ int_rem_euclid v (pos (2 ^ w)) → r ≤ℤ highest w signed → t ≡ r → Wraps w signed v t
below_wraps w signed v r t some e within is = rw is (remainder_wraps w signed v r some e within)

pub above_wraps : (w : ℕ) (signed : Bool) (v r t : ℤ) → 0 < w → r ≡ int_rem_euclid v (pos (2 ^ w)) → highest w signed <ℤ r → t ≡ r -ℤ pos (2 ^ w) → Wraps w signed v t
above_wraps w signed v r t some e above is = rw is (remainder_less_wraps w signed v r some e above)
