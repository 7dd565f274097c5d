-- Numbers that differ by a multiple of 2 to the width are wrapped to one number: so a number may be kept in 128 bits on the way.
use Rattle.std.proofs.Common.{◌≡◌, ℕ, zero, suc, ◌+◌, ◌-◌, ◌*◌, ◌/◌, ◌%◌, ◌^◌, ◌<◌, ◌≤◌, Bool, arith, refl, sym, subst, ◌∙◌, ap}
use Rattle.std.proofs.Math.IntN.{ℤ, pos, negsuc, ◌+ℤ◌, ◌*ℤ◌, neg_ℤ, negsuc-*ℤ-pos}
use Rattle.std.proofs.Math.Nat.{mul_assoc, mod-add-div'}
use Rattle.std.specs.Prelude.{unsigned_abs, ◌<ℤ◌, ◌≤ℤ◌, nat_lt, if◌then◌else◌}
use Rattle.std.specs.Int.{w128, cast_signed, int_rem_euclid, int_wrap}
use Rattle.std.proofs.lemmas.Int.{ints}
use Rattle.std.proofs.lemmas.Nat.{pow_pos, pow-add}
use Rattle.num_core.specs.Wrapping.{wrap, DiffersByMultiple}
use Rattle.num_core.proofs.Products.{add-mul}
use Rattle.num_core.proofs.Wrapped.{wraps_defined, wrap_is, remainder_differs, remainder_not_negative, remainder_below}

chained : (a b c s t u : ℤ) → a ≡ b +ℤ s → b ≡ c +ℤ t → u ≡ s +ℤ t → a ≡ c +ℤ u
chained a b c s t u e f g = omega (arith, ints)

-- what differs by a multiple from one that differs by a multiple does so itself
pub differs_then : (m a b c : ℤ) → DiffersByMultiple m a b → DiffersByMultiple m b c → DiffersByMultiple m a c
differs_then m a b c one other = (one.0 +ℤ other.0, chained a b c _ _ _ one.1 other.1 (add-mul one.0 other.0 m))

-- two such numbers are wrapped to one
pub wrap_same : (w : ℕ) (signed : Bool) (a b : ℤ) → 0 < w → DiffersByMultiple (pos (2 ^ w)) a b → wrap w signed a ≡ wrap w signed b
wrap_same w signed a b some differs =
    let wraps = wraps_defined w signed b some in
    sym (wrap_is w signed a (wrap w signed b) some (record {
      in_range = wraps.in_range;
      by_multiple = differs_then (pos (2 ^ w)) a b (wrap w signed b) differs wraps.by_multiple;
    }))

negated_times : (m d : ℕ) → neg_ℤ (pos m) *ℤ pos d ≡ neg_ℤ (pos (m * d))
negated_times zero d = omega (arith, ints)
negated_times (suc m) d = negsuc-*ℤ-pos m d

-- a product of three, of which two are not below 0
regrouped : (k : ℤ) (c d : ℕ) → (k *ℤ pos c) *ℤ pos d ≡ k *ℤ pos (c * d)
regrouped (pos n) c d = ap pos (mul_assoc n c d)
regrouped (negsuc n) c d = ap (λ (x : ℤ). x *ℤ pos d) (negsuc-*ℤ-pos n c) ∙ (negated_times (suc n * c) d ∙ (ap (λ m. neg_ℤ (pos m)) (mul_assoc (suc n) c d) ∙ sym (negsuc-*ℤ-pos n (c * d))))

parts : (w most : ℕ) → w ≤ most → 2 ^ most ≡ 2 ^ (most - w) * 2 ^ w
parts w most few = let e : most ≡ (most - w) + w = omega (arith, few) in ap (λ n. 2 ^ n) e ∙ pow-add 2 (most - w) w

-- a multiple of 2 to a greater width is one
pub differs_narrower : (w most : ℕ) (a b : ℤ) → w ≤ most → DiffersByMultiple (pos (2 ^ most)) a b → DiffersByMultiple (pos (2 ^ w)) a b
differs_narrower w most a b few differs =
    (differs.0 *ℤ pos (2 ^ (most - w)), differs.1 ∙ ap (λ (x : ℤ). b +ℤ x) (ap (λ n. differs.0 *ℤ pos n) (parts w most few) ∙ sym (regrouped differs.0 (2 ^ (most - w)) (2 ^ w))))

-- ---- 128 bits on the way

one_more : (n m : ℕ) → n < m → pos n ≡ negsuc (m - 1 - n) +ℤ (pos 1 *ℤ pos m)
one_more n m below = omega (arith, ints)

none_more : (v m : ℤ) → v ≡ v +ℤ (pos 0 *ℤ m)
none_more v m = omega (arith, ints)

-- bits and the number with a sign that they spell
cast_differs : (n : ℕ) → n < 2 ^ 128 → DiffersByMultiple (pos (2 ^ 128)) (pos n) (cast_signed w128 n)
cast_differs n small = (if nat_lt n (2 ^ 127) then pos 0 else pos 1, grind (arith, ints))

divided : (n m : ℕ) → pos n ≡ pos (n % m) +ℤ (pos (n / m) *ℤ pos m)
divided n m = omega (arith, ints, mod-add-div' n m)

-- what is left of a number in 128 bits
rest_differs : (n : ℕ) → DiffersByMultiple (pos (2 ^ 128)) (pos n) (pos (n % 2 ^ 128))
rest_differs n = (pos (n / 2 ^ 128), divided n (2 ^ 128))

natural : (z : ℤ) → pos 0 ≤ℤ z → z ≡ pos (unsigned_abs z)
natural (pos n) low = refl
natural (negsuc n) low = absurd (omega (arith, ints, low))

natural_below : (z : ℤ) (m : ℕ) → pos 0 ≤ℤ z → z <ℤ pos m → unsigned_abs z < m
natural_below (pos n) m low high = omega (arith, ints, high)
natural_below (negsuc n) m low high = absurd (omega (arith, ints, low))

-- what is left of a number in 128 bits with a sign
kept_differs : (v : ℤ) → DiffersByMultiple (pos (2 ^ 128)) v (int_wrap w128 v)
unfolding int_wrap
kept_differs v =
    let m : ℕ = 2 ^ 128 in
    let rest = int_rem_euclid v (pos m) in
    let low = remainder_not_negative v m in
    let high = remainder_below v m (pow_pos 128) in
    let is : rest ≡ pos (unsigned_abs rest) = natural rest low in
    differs_then (pos m) v (pos (unsigned_abs rest)) (cast_signed w128 (unsigned_abs rest)) (subst (DiffersByMultiple (pos m) v) is (remainder_differs v m (pow_pos 128)))
    (cast_differs (unsigned_abs rest) (natural_below rest m low high))

pub wrap_kept_wide : (w : ℕ) (signed : Bool) (v : ℤ) → 0 < w → w ≤ 128 → wrap w signed (int_wrap w128 v) ≡ wrap w signed v
wrap_kept_wide w signed v some few = sym (wrap_same w signed v (int_wrap w128 v) some (differs_narrower w 128 v (int_wrap w128 v) few (kept_differs v)))

pub wrap_of_bits : (w : ℕ) (signed : Bool) (n : ℕ) → 0 < w → w ≤ 128 → n < 2 ^ 128 → wrap w signed (cast_signed w128 n) ≡ wrap w signed (pos n)
wrap_of_bits w signed n some few small = sym (wrap_same w signed (pos n) (cast_signed w128 n) some (differs_narrower w 128 (pos n) (cast_signed w128 n) few (cast_differs n small)))

pub wrap_of_rest : (w : ℕ) (signed : Bool) (n : ℕ) → 0 < w → w ≤ 128 → wrap w signed (pos (n % 2 ^ 128)) ≡ wrap w signed (pos n)
wrap_of_rest w signed n some few = sym (wrap_same w signed (pos n) (pos (n % 2 ^ 128)) some (differs_narrower w 128 (pos n) (pos (n % 2 ^ 128)) few (rest_differs n)))
