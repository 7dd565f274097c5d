-- Constants, operations on each bit, conversions, shifts and rotations.
use Rattle.std.proofs.Common.{◌≡◌, ℕ, zero, suc, ◌+◌, ◌-◌, ◌*◌, ◌/◌, ◌%◌, ◌^◌, ◌<◌, Bool, true, false, not, ◌&&◌, ◌||◌, refl, sym, ◌∙◌, ap, subst, List, [], ◌∷◌, length, arith, ℤ, pos, ◌+ℤ◌, ◌-ℤ◌, ◌*ℤ◌}
use Rattle.std.specs.Prelude.{nat_eq, neg_ℤ, bit_and, bit_or, bit_xor, if◌then◌else◌}
use Rattle.std.specs.Int.{int_div_euclid}
use Rattle.std.proofs.Math.IntN.{negsuc, *ℤ_comm}
use Rattle.std.proofs.Math.Nat.{pow-succ'}
use Rattle.std.proofs.lemmas.Int.{ints}
use Rattle.std.proofs.lemmas.Nat.{and_block, or_block, xor_block}
use Rattle.std.proofs.lemmas.List.{length-map}
use Rattle.std.proofs.lemmas.Bool.{eqb-true, eqb-false}
use Rattle.num_core.proofs.Products.{add-mul}
use Rattle.num_core.specs.Wrapping.{wrap, DiffersByMultiple}
use Rattle.clause_core.specs.declared.literal.Lit.{Lit}
use Rattle.clause_core.specs.Satisfaction.{literal_true}
use Rattle.gates.specs.Literals.{true_lit, false_lit}
use Rattle.gates.specs.Meaning.{exactly_one}
use Rattle.gates.specs.Models.{IsModel}
use Rattle.gates.specs.Netlists.{Netlist, Made}
use Rattle.gates.proofs.NetLaws.{Means-and, Means-or, Means-xor}
use Rattle.word_circuits.specs.declared.bits.BitOperator.{BitOperator}
use Rattle.word_circuits.specs.declared.bits.BitOperator.TheVariants.{And, Or, Xor}
use Rattle.word_circuits.specs.Words.{MadeWord, is_odd, low_bit, constant_of, not_word, bit_of, bitwise_of}
use Rattle.word_laws.specs.Numbers.{bit, number, value}
use Rattle.word_laws.specs.Results.{combined}
use Rattle.word_laws.proofs.Multiples.{differs_same, differs_then, differs_sub}
use Rattle.word_laws.proofs.Numbers.{number-not}
use Rattle.word_laws.proofs.Values.{value_differs, value_wraps_at}

-- constants
pub length-constant : (width : ℕ) (x : ℤ) → length (constant_of width x) ≡ width
length-constant zero x = refl
length-constant (suc width) x = ap suc (length-constant width (int_div_euclid x (pos 2)))

-- a whole number is its low bit and twice the others
low_is : (t : Bool) (a r : ℕ) → nat_eq r 1 ≡ t → r < 2 → a ≡ r + 2 * (a / 2) → a ≡ bit t + 2 * (a / 2)
low_is t a r e small h = subst (λ k. a ≡ k + 2 * (a / 2)) (is t r e small) h
  where
    is : (t : Bool) (r : ℕ) → nat_eq r 1 ≡ t → r < 2 → r ≡ bit t
    is true r e small = eqb-true r 1 e
    is false r e small = omega (arith, eqb-false r 1 e)

halves : (x : ℤ) → x ≡ pos (bit (is_odd x)) +ℤ int_div_euclid x (pos 2) +ℤ int_div_euclid x (pos 2)
halves (pos a) = whole a (a / 2) (bit (nat_eq (a % 2) 1)) (low_is (nat_eq (a % 2) 1) a (a % 2) refl (omega arith) (omega arith))
  where
    whole : (a h b : ℕ) → a ≡ b + 2 * h → pos a ≡ pos b +ℤ pos h +ℤ pos h
    whole a h b e = omega (arith, ints)
halves (negsuc a) = below a (a / 2) (bit (nat_eq (2 - 1 - a % 2) 1)) (turned (nat_eq (2 - 1 - a % 2) 1) a (a % 2) refl (omega arith) (omega arith))
  where
    turned : (t : Bool) (a r : ℕ) → nat_eq (2 - 1 - r) 1 ≡ t → r < 2 → a ≡ r + 2 * (a / 2) → a + bit t ≡ 1 + 2 * (a / 2)
    turned true a r e small h = let k : 2 - 1 - r ≡ 1 = eqb-true (2 - 1 - r) 1 e in omega arith
    turned false a r e small h = omega (arith, eqb-false (2 - 1 - r) 1 e)

    below : (a h b : ℕ) → a + b ≡ 1 + 2 * h → negsuc a ≡ pos b +ℤ negsuc h +ℤ negsuc h
    below a h b e = omega (arith, ints)

low_bit-true : (rho : ℕ → Bool) (x : ℤ) → rho 1 ≡ true → literal_true rho (low_bit x) ≡ is_odd x
low_bit-true rho x one = by (is_odd x)
  where
    by : (t : Bool) → literal_true rho (if t then true_lit else false_lit) ≡ t
    by true = one
    by false = ap not one

constant_differs : (rho : ℕ → Bool) (width : ℕ) (x : ℤ) → rho 1 ≡ true → DiffersByMultiple (pos (2 ^ width)) x (pos (number rho (constant_of width x)))
constant_differs rho zero x one = (x, every x)
  where
    every : (x : ℤ) → x ≡ pos 0 +ℤ (x *ℤ pos 1)
    every x = omega (arith, ints)
constant_differs rho (suc width) x one =
    let half = int_div_euclid x (pos 2) in
    let n = number rho (constant_of width half) in
    let h = constant_differs rho width half one in
    (h.0, joined x half (pos n) (bit (is_odd x)) n (h.0 *ℤ pos (2 ^ width)) (h.0 *ℤ pos (2 ^ suc width)) (bit (literal_true rho (low_bit x))) (halves x) h.1 refl (doubled h.0 (2 ^ width) _ (pow-succ' 2 width)) (ap bit (low_bit-true rho x one)))
  where
    doubled : (k : ℤ) (p q : ℕ) → q ≡ 2 * p → k *ℤ pos q ≡ (k *ℤ pos p) +ℤ (k *ℤ pos p)
    doubled k p q e = ap (λ (j : ℕ). k *ℤ pos j) (e ∙ twice p) ∙ *ℤ_comm k (pos p +ℤ pos p) ∙ add-mul (pos p) (pos p) k ∙ ap (λ (z : ℤ). z +ℤ z) (*ℤ_comm (pos p) k)
      where
        twice : (p : ℕ) → 2 * p ≡ p + p
        twice p = omega arith

    joined : (x half y : ℤ) (b n : ℕ) (k q : ℤ) (c : ℕ) → x ≡ pos b +ℤ half +ℤ half → half ≡ y +ℤ k → y ≡ pos n → q ≡ k +ℤ k → c ≡ b → x ≡ pos (c + 2 * n) +ℤ q
    joined x half y b n k q c e f g h i = omega (arith, ints)

pub value-constant : (s : Bool) (rho : ℕ → Bool) (width : ℕ) (x : ℤ) → 0 < width → rho 1 ≡ true → value s rho (constant_of width x) ≡ wrap width s x
value-constant s rho width x some one = value_wraps_at s rho (constant_of width x) width x (length-constant width x) some (constant_differs rho width x one)

-- NOT
pub value-not : (s : Bool) (rho : ℕ → Bool) (a : List Lit) → 0 < length a → value s rho (not_word a) ≡ wrap (length a) s (neg_ℤ (value s rho a) -ℤ pos 1)
value-not s rho a some =
    let p : ℤ = pos (2 ^ length a) in
    value_wraps_at s rho (not_word a) (length a) _ (length-map a _) some
    (subst (λ (x : ℤ). DiffersByMultiple p x (pos (number rho (not_word a)))) (below (value s rho a))
    (differs_then p (negsuc 0 -ℤ value s rho a) (negsuc 0 -ℤ pos (number rho a)) (pos (number rho (not_word a)))
    (differs_sub p (negsuc 0) (negsuc 0) (value s rho a) (pos (number rho a)) (differs_same p (negsuc 0)) (value_differs s rho a))
    (negsuc 0, turned (number rho (not_word a)) (number rho a) (2 ^ length a) (number-not rho a))))
  where
    below : (x : ℤ) → negsuc 0 -ℤ x ≡ neg_ℤ x -ℤ pos 1
    below x = omega (arith, ints)

    turned : (m n p : ℕ) → m + n + 1 ≡ p → negsuc 0 -ℤ pos n ≡ pos m +ℤ (negsuc 0 *ℤ pos p)
    turned m n p e = omega (arith, ints)

-- AND, OR and XOR of each bit
two_bits : (x y z : Bool) (m n k : ℕ) (f : ℕ → ℕ → ℕ) → ((a b r t : ℕ) → r < 2 ^ 1 → t < 2 ^ 1 → f (a * 2 ^ 1 + r) (b * 2 ^ 1 + t) ≡ f a b * 2 ^ 1 + f r t) → bit z ≡ f (bit x) (bit y) → k ≡ f m n → bit z + 2 * k ≡ f (bit x + 2 * m) (bit y + 2 * n)
two_bits x y z m n k f block e h =
    swap (bit z) k ∙ ap (λ i. i * 2 ^ 1 + bit z) h ∙ ap (λ i. f m n * 2 ^ 1 + i) e ∙ sym (block m n (bit x) (bit y) (small x) (small y)) ∙ ap (λ i. f i (n * 2 ^ 1 + bit y)) (sym (swap (bit x) m)) ∙ ap (λ i. f (bit x + 2 * m) i) (sym (swap (bit y) n))
  where
    swap : (b n : ℕ) → b + 2 * n ≡ n * 2 ^ 1 + b
    swap b n = omega arith

    small : (b : Bool) → bit b < 2 ^ 1
    small true = omega arith
    small false = omega arith

and_bit : (x y : Bool) → bit (x && y) ≡ bit_and (bit x) (bit y)
and_bit true true = refl
and_bit true false = refl
and_bit false true = refl
and_bit false false = refl

or_bit : (x y : Bool) → bit (x || y) ≡ bit_or (bit x) (bit y)
or_bit true true = refl
or_bit true false = refl
or_bit false true = refl
or_bit false false = refl

xor_bit : (x y : Bool) → bit (exactly_one x y) ≡ bit_xor (bit x) (bit y)
xor_bit true true = refl
xor_bit true false = refl
xor_bit false true = refl
xor_bit false false = refl

-- one bit and those above it
record Combines (rho : ℕ → Bool) (o : BitOperator) (a b : Lit) (n : Netlist) (r : Made) : Type 0 where
  pub model : IsModel rho n
  pub step : (m k j : ℕ) → j ≡ combined o m k → bit (literal_true rho r.lit) + 2 * j ≡ combined o (bit (literal_true rho a) + 2 * m) (bit (literal_true rho b) + 2 * k)

Combines-bit : (rho : ℕ → Bool) (o : BitOperator) (a b : Lit) (n : Netlist) → IsModel rho (bit_of o a b n).net → Combines rho o a b n (bit_of o a b n)
Combines-bit rho And a b n m =
    let h = Means-and rho a b n m in
    record { model = h.model; step = λ i k j e. two_bits (literal_true rho a) (literal_true rho b) _ i k j bit_and (λ p q r t. and_block 1 p q r t) (ap bit h.value ∙ and_bit (literal_true rho a) (literal_true rho b)) e }
Combines-bit rho Or a b n m =
    let h = Means-or rho a b n m in
    record { model = h.model; step = λ i k j e. two_bits (literal_true rho a) (literal_true rho b) _ i k j bit_or (λ p q r t. or_block 1 p q r t) (ap bit h.value ∙ or_bit (literal_true rho a) (literal_true rho b)) e }
Combines-bit rho Xor a b n m =
    let h = Means-xor rho a b n m in
    record { model = h.model; step = λ i k j e. two_bits (literal_true rho a) (literal_true rho b) _ i k j bit_xor (λ p q r t. xor_block 1 p q r t) (ap bit h.value ∙ xor_bit (literal_true rho a) (literal_true rho b)) e }

none_combined : (o : BitOperator) → 0 ≡ combined o 0 0
none_combined And = refl
none_combined Or = refl
none_combined Xor = refl

record CombinesWord (rho : ℕ → Bool) (o : BitOperator) (a b : List Lit) (n : Netlist) (r : MadeWord) : Type 0 where
  pub model : IsModel rho n
  pub is : number rho r.word ≡ combined o (number rho a) (number rho b)

CombinesWord-bitwise : (rho : ℕ → Bool) (o : BitOperator) (a b : List Lit) (n : Netlist) → length a ≡ length b → IsModel rho (bitwise_of o a b n).net → CombinesWord rho o a b n (bitwise_of o a b n)
CombinesWord-bitwise rho o [] [] n e m = record { model = m; is = none_combined o }
CombinesWord-bitwise rho o [] (b ∷ bs) n e m = absurd (omega arith)
CombinesWord-bitwise rho o (a ∷ as') [] n e m = absurd (omega arith)
CombinesWord-bitwise rho o (a ∷ as') (b ∷ bs) n e m =
    let x = bit_of o a b n in
    let r = CombinesWord-bitwise rho o as' bs x.net (omega arith) m in
    let y = Combines-bit rho o a b n r.model in
    record { model = y.model; is = y.step (number rho as') (number rho bs) _ r.is }

pub number-bitwise : (o : BitOperator) (rho : ℕ → Bool) (a b : List Lit) (n : Netlist) → length a ≡ length b → IsModel rho (bitwise_of o a b n).net → number rho (bitwise_of o a b n).word ≡ combined o (number rho a) (number rho b)
number-bitwise o rho a b n e m = (CombinesWord-bitwise rho o a b n e m).is
