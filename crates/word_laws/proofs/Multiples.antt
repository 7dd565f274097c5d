-- Numbers that differ by a multiple of m: sums, differences and products of them do too.
use Rattle.std.proofs.Common.{◌≡◌, ℕ, ◌+◌, ◌*◌, ◌/◌, ◌%◌, ◌^◌, arith, sym, ◌∙◌, ap}
use Rattle.std.proofs.Math.IntN.{ℤ, pos, ◌+ℤ◌, ◌-ℤ◌, ◌*ℤ◌, neg_ℤ, ℤ_ind, +ℤ_one, -ℤ_one, suc_ℤ-*ℤ, pred_ℤ-*ℤ, zero-*ℤ, *ℤ_comm}
use Rattle.std.proofs.lemmas.Int.{ints}
use Rattle.std.proofs.lemmas.Nat.{pow-add}
use Rattle.num_core.specs.Wrapping.{DiffersByMultiple}
use Rattle.num_core.proofs.Products.{add-mul}

-- (m k) d is m (k d)
Associates : ℤ → ℤ → ℤ → Type 0
Associates k d m = (m *ℤ k) *ℤ d ≡ m *ℤ (k *ℤ d)

one_more_times : (m d : ℤ) → (m +ℤ pos 1) *ℤ d ≡ (m *ℤ d) +ℤ d
one_more_times m d = ap (λ (x : ℤ). x *ℤ d) (+ℤ_one m) ∙ suc_ℤ-*ℤ m d

one_less_times : (m d : ℤ) → (m -ℤ pos 1) *ℤ d ≡ (m *ℤ d) -ℤ d
one_less_times m d = ap (λ (x : ℤ). x *ℤ d) (-ℤ_one m) ∙ pred_ℤ-*ℤ m d

regroup : (x y d z : ℤ) → x ≡ z -ℤ y → x +ℤ y ≡ z
regroup x y d z e = omega (arith, ints)

-- a product of a difference
pub sub-mul : (m k d : ℤ) → (m -ℤ k) *ℤ d ≡ (m *ℤ d) -ℤ (k *ℤ d)
sub-mul m k d = turned _ _ _ (sym (add-mul (m -ℤ k) k d) ∙ ap (λ (x : ℤ). x *ℤ d) (back m k))
  where
    turned : (x y z : ℤ) → x +ℤ y ≡ z → x ≡ z -ℤ y
    turned x y z e = omega (arith, ints)

    back : (m k : ℤ) → (m -ℤ k) +ℤ k ≡ m
    back m k = omega (arith, ints)

associates_none : (k d : ℤ) → Associates k d (pos 0)
unfolding Associates
associates_none k d = ap (λ (x : ℤ). x *ℤ d) (zero-*ℤ k) ∙ zero-*ℤ d ∙ sym (zero-*ℤ (k *ℤ d))

associates_more : (k d m : ℤ) → Associates k d m → Associates k d (m +ℤ pos 1)
unfolding Associates
associates_more k d m so_far =
    ap (λ (x : ℤ). x *ℤ d) (one_more_times m k) ∙ add-mul (m *ℤ k) k d ∙ ap (λ (x : ℤ). x +ℤ (k *ℤ d)) so_far ∙ sym (one_more_times m (k *ℤ d))

associates_less : (k d m : ℤ) → Associates k d m → Associates k d (m -ℤ pos 1)
unfolding Associates
associates_less k d m so_far =
    ap (λ (x : ℤ). x *ℤ d) (one_less_times m k) ∙ sub-mul (m *ℤ k) k d ∙ ap (λ (x : ℤ). x -ℤ (k *ℤ d)) so_far ∙ sym (one_less_times m (k *ℤ d))

pub mul_assoc_ℤ : (m k d : ℤ) → (m *ℤ k) *ℤ d ≡ m *ℤ (k *ℤ d)
unfolding Associates
mul_assoc_ℤ m k d =
    ℤ_ind (Associates k d) (associates_none k d) (λ n so_far. associates_more k d (pos n) so_far)
    (λ n so_far. associates_less k d (neg_ℤ (pos n)) so_far) m

pub differs_same : (m a : ℤ) → DiffersByMultiple m a a
differs_same m a = (pos 0, none a _ (zero-*ℤ m))
  where
    none : (a z : ℤ) → z ≡ pos 0 → a ≡ a +ℤ z
    none a z e = omega (arith, ints)

pub differs_then : (m a b c : ℤ) → DiffersByMultiple m a b → DiffersByMultiple m b c → DiffersByMultiple m a c
differs_then m a b c h k = (h.0 +ℤ k.0, joined _ _ _ _ _ _ h.1 k.1 (add-mul h.0 k.0 m))
  where
    joined : (a b c x y z : ℤ) → a ≡ b +ℤ x → b ≡ c +ℤ y → z ≡ x +ℤ y → a ≡ c +ℤ z
    joined a b c x y z e f g = omega (arith, ints)

pub differs_back : (m a b : ℤ) → DiffersByMultiple m a b → DiffersByMultiple m b a
differs_back m a b h = (pos 0 -ℤ h.0, turned _ _ _ _ _ h.1 (sub-mul (pos 0) h.0 m) (zero-*ℤ m))
  where
    turned : (a b x y z : ℤ) → a ≡ b +ℤ x → y ≡ z -ℤ x → z ≡ pos 0 → b ≡ a +ℤ y
    turned a b x y z e f g = omega (arith, ints)

pub differs_add : (m a b c d : ℤ) → DiffersByMultiple m a b → DiffersByMultiple m c d → DiffersByMultiple m (a +ℤ c) (b +ℤ d)
differs_add m a b c d h k = (h.0 +ℤ k.0, joined a b c d (h.0 *ℤ m) (k.0 *ℤ m) _ h.1 k.1 (add-mul h.0 k.0 m))
  where
    joined : (a b c d x y z : ℤ) → a ≡ b +ℤ x → c ≡ d +ℤ y → z ≡ x +ℤ y → a +ℤ c ≡ (b +ℤ d) +ℤ z
    joined a b c d x y z e f g = omega (arith, ints)

pub differs_sub : (m a b c d : ℤ) → DiffersByMultiple m a b → DiffersByMultiple m c d → DiffersByMultiple m (a -ℤ c) (b -ℤ d)
differs_sub m a b c d h k = (h.0 -ℤ k.0, joined a b c d (h.0 *ℤ m) (k.0 *ℤ m) _ h.1 k.1 (sub-mul h.0 k.0 m))
  where
    joined : (a b c d x y z : ℤ) → a ≡ b +ℤ x → c ≡ d +ℤ y → z ≡ x -ℤ y → a -ℤ c ≡ (b -ℤ d) +ℤ z
    joined a b c d x y z e f g = omega (arith, ints)

-- a factor on the right
differs_times : (m a b c : ℤ) → DiffersByMultiple m a b → DiffersByMultiple m (a *ℤ c) (b *ℤ c)
differs_times m a b c h =
    (h.0 *ℤ c, ap (λ (x : ℤ). x *ℤ c) h.1 ∙ add-mul b (h.0 *ℤ m) c ∙ ap (λ (x : ℤ). (b *ℤ c) +ℤ x) (mul_assoc_ℤ h.0 m c ∙ ap (λ (x : ℤ). h.0 *ℤ x) (*ℤ_comm m c) ∙ sym (mul_assoc_ℤ h.0 c m)))

pub differs_mul : (m a b c d : ℤ) → DiffersByMultiple m a b → DiffersByMultiple m c d → DiffersByMultiple m (a *ℤ c) (b *ℤ d)
differs_mul m a b c d h k =
    let right = differs_times m c d b k in
    differs_then m (a *ℤ c) (b *ℤ c) (b *ℤ d) (differs_times m a b c h)
    (right.0, *ℤ_comm b c ∙ right.1 ∙ ap (λ (x : ℤ). x +ℤ (right.0 *ℤ m)) (*ℤ_comm d b))

-- natural numbers
pub differs_nat : (p x r c : ℕ) → x ≡ r + p * c → DiffersByMultiple (pos p) (pos x) (pos r)
differs_nat p x r c e = (pos c, ap pos (e ∙ turned r p c))
  where
    turned : (r p c : ℕ) → r + p * c ≡ r + c * p
    turned r p c = omega arith

pub differs_mod : (p x : ℕ) → DiffersByMultiple (pos p) (pos x) (pos (x % p))
differs_mod p x = differs_nat p x (x % p) (x / p) (parts x p)
  where
    parts : (x p : ℕ) → x ≡ x % p + p * (x / p)
    parts x p = omega arith

-- a multiple of a greater power is one of a smaller
pub differs_power : (k w : ℕ) (a b : ℤ) → DiffersByMultiple (pos (2 ^ (k + w))) a b → DiffersByMultiple (pos (2 ^ w)) a b
differs_power k w a b h =
    (h.0 *ℤ pos (2 ^ k), h.1 ∙ ap (λ (x : ℤ). b +ℤ x) (ap (λ (n : ℕ). h.0 *ℤ pos n) (pow-add 2 k w) ∙ sym (mul_assoc_ℤ h.0 (pos (2 ^ k)) (pos (2 ^ w)))))
