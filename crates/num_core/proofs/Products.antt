-- Products of whole numbers, and multiples that are close to one another.
use Rattle.std.proofs.Common.{◌≡◌, ℕ, zero, suc, ◌*◌, ◌<◌, arith, refl, sym, ◌∙◌, ap}
use Rattle.std.proofs.Math.IntN.{ℤ, pos, negsuc, ◌+ℤ◌, ◌-ℤ◌, ◌*ℤ◌, neg_ℤ, ℤ_ind, +ℤ_one, -ℤ_one, suc_ℤ-*ℤ, pred_ℤ-*ℤ, zero-*ℤ}
use Rattle.std.specs.Prelude.{unsigned_abs, ◌<ℤ◌}
use Rattle.std.proofs.lemmas.Int.{ints, unsigned_abs-mul}

-- one more, and one less, times d
more_times : (m d : ℤ) → (m +ℤ pos 1) *ℤ d ≡ (m *ℤ d) +ℤ d
more_times m d = ap (λ (x : ℤ). x *ℤ d) (+ℤ_one m) ∙ suc_ℤ-*ℤ m d

less_times : (m d : ℤ) → (m -ℤ pos 1) *ℤ d ≡ (m *ℤ d) -ℤ d
less_times m d = ap (λ (x : ℤ). x *ℤ d) (-ℤ_one m) ∙ pred_ℤ-*ℤ m d

joined : (p q r s t u : ℤ) → p ≡ q +ℤ r → q ≡ s +ℤ t → u ≡ s +ℤ r → p ≡ u +ℤ t
joined p q r s t u e f g = omega (arith, ints)

parted : (p q r s t u : ℤ) → p ≡ q -ℤ r → q ≡ s +ℤ t → u ≡ s -ℤ r → p ≡ u +ℤ t
parted p q r s t u e f g = omega (arith, ints)

swap_more : (m k : ℤ) → (m +ℤ pos 1) +ℤ k ≡ (m +ℤ k) +ℤ pos 1
swap_more m k = omega (arith, ints)

swap_less : (m k : ℤ) → (m -ℤ pos 1) +ℤ k ≡ (m +ℤ k) -ℤ pos 1
swap_less m k = omega (arith, ints)

Distributes : ℤ → ℤ → ℤ → Type 0
Distributes k d m = (m +ℤ k) *ℤ d ≡ (m *ℤ d) +ℤ (k *ℤ d)

distributes_more : (k d m : ℤ) → Distributes k d m → Distributes k d (m +ℤ pos 1)
unfolding Distributes
distributes_more k d m so_far =
    joined _ _ _ _ _ _ (ap (λ (x : ℤ). x *ℤ d) (swap_more m k) ∙ more_times (m +ℤ k) d) so_far (more_times m d)

distributes_less : (k d m : ℤ) → Distributes k d m → Distributes k d (m -ℤ pos 1)
unfolding Distributes
distributes_less k d m so_far =
    parted _ _ _ _ _ _ (ap (λ (x : ℤ). x *ℤ d) (swap_less m k) ∙ less_times (m +ℤ k) d) so_far (less_times m d)

distributes_none : (k d : ℤ) → Distributes k d (pos 0)
unfolding Distributes
distributes_none k d =
    let first : pos 0 +ℤ k ≡ k = omega (arith, ints) in
    let last : (k *ℤ d) ≡ (pos 0 *ℤ d) +ℤ (k *ℤ d) = rw (zero-*ℤ d) (from_zero (k *ℤ d)) in
    ap (λ (x : ℤ). x *ℤ d) first ∙ last
  where
    from_zero : (x : ℤ) → x ≡ pos 0 +ℤ x
    from_zero x = omega (arith, ints)

-- a product of a sum
pub add-mul : (m k d : ℤ) → (m +ℤ k) *ℤ d ≡ (m *ℤ d) +ℤ (k *ℤ d)
unfolding Distributes
add-mul m k d =
    ℤ_ind (Distributes k d) (distributes_none k d) (λ n so_far. distributes_more k d (pos n) so_far)
    (λ n so_far. distributes_less k d (neg_ℤ (pos n)) so_far) m

none_of_them : (n d : ℕ) → n * d < d → n ≡ 0
none_of_them zero d below = refl
none_of_them (suc n) d below = omega arith

zero_from_abs : (z : ℤ) → unsigned_abs z ≡ 0 → z ≡ pos 0
zero_from_abs (pos n) e = ap pos e
zero_from_abs (negsuc n) e = omega (arith, ints)

difference : (a b x y : ℤ) → (a +ℤ b) +ℤ x ≡ b +ℤ y → a ≡ y -ℤ x
difference a b x y e = omega (arith, ints)

-- two multiples of d whose distance is below d are one
pub same_multiple : (q p d x y : ℤ) → (q *ℤ d) +ℤ x ≡ (p *ℤ d) +ℤ y → unsigned_abs (y -ℤ x) < unsigned_abs d → q ≡ p
same_multiple q p d x y whole near =
    let k : ℤ = q -ℤ p in
    let split : q ≡ k +ℤ p = omega (arith, ints) in
    let product : (k *ℤ d) ≡ y -ℤ x =
    difference (k *ℤ d) (p *ℤ d) x y (ap (λ (z : ℤ). z +ℤ x) (sym (ap (λ (z : ℤ). z *ℤ d) split ∙ add-mul k p d)) ∙ whole) in
    let small : unsigned_abs k * unsigned_abs d < unsigned_abs d =
    rw (← unsigned_abs-mul k d, product) near in
    let none : k ≡ pos 0 = zero_from_abs k (none_of_them (unsigned_abs k) (unsigned_abs d) small) in
    omega (arith, ints)

-- what lies between -d and d is below d, its sign apart
pub abs_below : (z : ℤ) (d : ℕ) → z <ℤ pos d → neg_ℤ (pos d) <ℤ z → unsigned_abs z < d
abs_below (pos n) d under over = omega (arith, ints)
abs_below (negsuc n) d under over = omega (arith, ints)
