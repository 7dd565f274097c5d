-- The numbers of a width and sign: what the least and the greatest are, and what wrapping makes of a number among them.
use Rattle.std.proofs.Common.{◌≡◌, ℕ, ◌-◌, ◌%◌, ◌^◌, ◌<◌, ◌≤◌, Bool, true, false, sym, refl, arith}
use Rattle.std.proofs.Math.IntN.{ℤ, pos, ◌+ℤ◌, ◌*ℤ◌, neg_ℤ}
use Rattle.std.proofs.Math.Nat.{mod-lt, pow-le-pow_right}
use Rattle.std.specs.Prelude.{◌<ℤ◌, ◌≤ℤ◌}
use Rattle.std.proofs.lemmas.Int.{ints}
use Rattle.std.proofs.lemmas.Nat.{pow_pos}
use Rattle.num_core.specs.Ranges.{lowest, highest, Fits}
use Rattle.num_core.specs.Wrapping.{wrap, DiffersByMultiple}
use Rattle.num_core.proofs.Wrapped.{wraps_defined, wrap_is, below_wraps}

-- ---- bounds

-- the least number is 0 or below
pub lowest_not_positive : (w : ℕ) (signed : Bool) → lowest w signed ≤ℤ pos 0
lowest_not_positive w true = omega (arith, ints)
lowest_not_positive w false = omega (arith, ints)

-- the greatest is 0 or above
pub highest_not_negative : (w : ℕ) (signed : Bool) → pos 0 ≤ℤ highest w signed
highest_not_negative w true = omega (arith, ints)
highest_not_negative w false = omega (arith, ints)

pub lowest_below_highest : (w : ℕ) (signed : Bool) → lowest w signed ≤ℤ highest w signed
lowest_below_highest w signed = omega (arith, ints, lowest_not_positive w signed, highest_not_negative w signed)

-- numbers of at most so many bits are not below the least signed one of so many bits
pub lowest_bound : (w most : ℕ) (signed : Bool) → w ≤ most → neg_ℤ (pos (2 ^ (most - 1))) ≤ℤ lowest w signed
lowest_bound w most true few = let wide : 2 ^ (w - 1) ≤ 2 ^ (most - 1) = pow-le-pow_right (omega arith) (omega (arith, few)) in omega (arith, ints)
lowest_bound w most false few = omega (arith, ints)

-- and below 2 to that many
pub highest_bound : (w most : ℕ) (signed : Bool) → w ≤ most → highest w signed <ℤ pos (2 ^ most)
highest_bound w most true few =
    let wide : 2 ^ (w - 1) ≤ 2 ^ most = pow-le-pow_right (omega arith) (omega (arith, few)) in
    let some : 0 < 2 ^ (w - 1) = pow_pos (w - 1) in
    omega (arith, ints)
highest_bound w most false few =
    let wide : 2 ^ w ≤ 2 ^ most = pow-le-pow_right (omega arith) few in
    let some : 0 < 2 ^ w = pow_pos w in
    omega (arith, ints)

-- ---- numbers among them

pub zero_fits : (w : ℕ) (signed : Bool) → Fits (lowest w signed) (highest w signed) (pos 0)
zero_fits w signed = (lowest_not_positive w signed, highest_not_negative w signed)

pub lowest_fits : (w : ℕ) (signed : Bool) → Fits (lowest w signed) (highest w signed) (lowest w signed)
lowest_fits w signed = (omega (arith, ints), lowest_below_highest w signed)

pub highest_fits : (w : ℕ) (signed : Bool) → Fits (lowest w signed) (highest w signed) (highest w signed)
highest_fits w signed = (lowest_below_highest w signed, omega (arith, ints))

-- the numbers without a sign
pub number_fits : (w x : ℕ) → x < 2 ^ w → Fits (lowest w false) (highest w false) (pos x)
number_fits w x small = (omega (arith, ints), omega (arith, ints))

-- a number between two of a range is one of it
pub fits_between : (low high a b v : ℤ) → Fits low high a → Fits low high b → Fits a b v → Fits low high v
fits_between low high a b v p q r = (omega (arith, ints, p.0, r.0), omega (arith, ints, q.1, r.1))

-- ---- wrapping

-- the wrapped number is one of the width and sign
pub wrap_fits : (w : ℕ) (signed : Bool) (v : ℤ) → 0 < w → Fits (lowest w signed) (highest w signed) (wrap w signed v)
wrap_fits w signed v some = (wraps_defined w signed v some).in_range

-- and differs from the number by a multiple
pub wrap_differs : (w : ℕ) (signed : Bool) (v : ℤ) → 0 < w → DiffersByMultiple (pos (2 ^ w)) v (wrap w signed v)
wrap_differs w signed v some = (wraps_defined w signed v some).by_multiple

-- a number of the width and sign is wrapped to itself
pub wrap_kept : (w : ℕ) (signed : Bool) (v : ℤ) → 0 < w → Fits (lowest w signed) (highest w signed) v → wrap w signed v ≡ v
wrap_kept w signed v some fits = sym (wrap_is w signed v v some (record { in_range = fits; by_multiple = (pos 0, none v (pos (2 ^ w))) }))
  where
    none : (v m : ℤ) → v ≡ v +ℤ (pos 0 *ℤ m)
    none v m = omega (arith, ints)

pub wrap_zero : (w : ℕ) (signed : Bool) → 0 < w → wrap w signed (pos 0) ≡ pos 0
wrap_zero w signed some = wrap_kept w signed (pos 0) some (zero_fits w signed)

-- wrapping twice is wrapping once
pub wrap_twice : (w : ℕ) (signed : Bool) (v : ℤ) → 0 < w → wrap w signed (wrap w signed v) ≡ wrap w signed v
wrap_twice w signed v some = wrap_kept w signed (wrap w signed v) some (wrap_fits w signed v some)

-- numbers without a sign are wrapped to the remainder
pub number_wrapped : (w x : ℕ) → 0 < w → wrap w false (pos x) ≡ pos (x % 2 ^ w)
number_wrapped w x some =
    let small : x % 2 ^ w < 2 ^ w = mod-lt x (pow_pos w) in
    sym (wrap_is w false (pos x) (pos (x % 2 ^ w)) some (below_wraps w false (pos x) (pos (x % 2 ^ w)) (pos (x % 2 ^ w)) some refl (number_fits w (x % 2 ^ w) small).1 refl))

pub number_kept : (w x : ℕ) → 0 < w → x < 2 ^ w → wrap w false (pos x) ≡ pos x
number_kept w x some small = wrap_kept w false (pos x) some (number_fits w x small)
