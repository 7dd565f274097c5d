-- Words as numbers: parts of words, and words behind one another.
use Rattle.std.proofs.Common.{◌≡◌, ℕ, zero, suc, ◌+◌, ◌*◌, ◌-◌, ◌^◌, ◌%◌, ◌≤◌, ◌<◌, Bool, true, false, not, refl, sym, ◌∙◌, ap, subst, List, [], ◌∷◌, ◌++◌, length, take, drop, arith}
use Rattle.std.proofs.Math.Nat.{pow-succ', mul_assoc, add-mul-mod_self_left, mod-eq_of_lt}
use Rattle.std.proofs.lemmas.Nat.{pow-add}
use Rattle.std.proofs.lemmas.List.{length-take-le, take-append-drop}
use Rattle.clause_core.specs.declared.literal.Lit.{Lit}
use Rattle.clause_core.specs.Values.{negation}
use Rattle.clause_core.specs.Satisfaction.{literal_true}
use Rattle.gates.specs.Literals.{false_lit}
use Rattle.gates.proofs.Booleans.{literal_true-not}
use Rattle.word_circuits.specs.Words.{zeros, not_word}
use Rattle.word_laws.specs.Numbers.{bit, number}

pub power_step : (n x : ℕ) → 2 ^ suc n * x ≡ 2 * (2 ^ n * x)
power_step n x = rw pow-succ' (mul_assoc 2 (2 ^ n) x)

-- a word's number is below its power of two
pub bit_small : (b : Bool) → bit b ≤ 1
bit_small true = omega arith
bit_small false = omega arith

less_step : (x n p q : ℕ) → x ≤ 1 → n < p → q ≡ 2 * p → x + 2 * n < q
less_step x n p q h k e = omega arith

pub number-lt : (rho : ℕ → Bool) (w : List Lit) → number rho w < 2 ^ length w
number-lt rho [] = omega arith
number-lt rho (l ∷ ls) = less_step (bit (literal_true rho l)) (number rho ls) (2 ^ length ls) _ (bit_small (literal_true rho l)) (number-lt rho ls) (pow-succ' 2 (length ls))

bit-not : (b : Bool) → bit (not b) + bit b ≡ 1
bit-not true = refl
bit-not false = refl

not_step : (x y n m p q : ℕ) → x + y ≡ 1 → n + m + 1 ≡ p → q ≡ 2 * p → x + 2 * n + (y + 2 * m) + 1 ≡ q
not_step x y n m p q h k e = omega arith

pub number-not : (rho : ℕ → Bool) (w : List Lit) → number rho (not_word w) + number rho w + 1 ≡ 2 ^ length w
number-not rho [] = refl
number-not rho (l ∷ ls) =
    not_step (bit (literal_true rho (negation l))) (bit (literal_true rho l)) (number rho (not_word ls)) (number rho ls) (2 ^ length ls) _
    (ap (λ z. bit z + bit (literal_true rho l)) (literal_true-not rho l) ∙ bit-not (literal_true rho l)) (number-not rho ls) (pow-succ' 2 (length ls))

append_step : (x n v w q : ℕ) → v ≡ n + w → q ≡ 2 * w → x + 2 * v ≡ x + 2 * n + q
append_step x n v w q e f = omega arith

zero_step : (x n : ℕ) → x ≡ 0 → n ≡ 0 → x + 2 * n ≡ 0
zero_step x n e f = omega arith

back : (i n : ℕ) → i ≤ n → i + (n - i) ≡ n
back i n h = omega arith

pub powers : (i n : ℕ) → i ≤ n → 2 ^ i * 2 ^ (n - i) ≡ 2 ^ n
powers i n h = sym (pow-add 2 i (n - i)) ∙ ap (λ z. 2 ^ z) (back i n h)

-- words after words
pub number-append : (rho : ℕ → Bool) (v w : List Lit) → number rho (v ++ w) ≡ number rho v + 2 ^ length v * number rho w
number-append rho [] w = omega arith
number-append rho (l ∷ ls) w =
    append_step (bit (literal_true rho l)) (number rho ls) (number rho (ls ++ w)) (2 ^ length ls * number rho w) _ (number-append rho ls w) (power_step (length ls) (number rho w))

pub number-false : (rho : ℕ → Bool) (i : ℕ) → rho 1 ≡ true → number rho (zeros i) ≡ 0
number-false rho zero one = refl
number-false rho (suc i) one = zero_step _ _ (ap (λ z. bit (not z)) one) (number-false rho i one)

-- a word is its low part and its high part
pub split_number : (rho : ℕ → Bool) (a : List Lit) (k : ℕ) → k ≤ length a → number rho a ≡ number rho (take k a) + 2 ^ k * number rho (drop k a)
split_number rho a k h =
    ap (number rho) (sym (take-append-drop k a)) ∙ number-append rho (take k a) (drop k a)
    ∙ ap (λ z. number rho (take k a) + 2 ^ z * number rho (drop k a)) (length-take-le k a h)

-- a number below the power is its low part
low_part : (t p x : ℕ) → t + p * x < p → t ≡ t + p * x
low_part t p zero h = omega arith
low_part t p (suc x) h = absurd (omega (arith, too_big t p x))
  where
    too_big : (t p x : ℕ) → p ≤ t + p * suc x
    too_big t p x = omega arith

pub number-take : (rho : ℕ → Bool) (w : List Lit) (k : ℕ) → k ≤ length w → number rho w < 2 ^ k → number rho (take k w) ≡ number rho w
number-take rho w k h small =
    let s = split_number rho w k h in
    low_part (number rho (take k w)) (2 ^ k) (number rho (drop k w)) (subst (λ z. z < 2 ^ k) s small) ∙ sym s

pub number-top : (rho : ℕ → Bool) (b : List Lit) → rho 1 ≡ true → number rho (b ++ false_lit ∷ []) ≡ number rho b
number-top rho b one = number-append rho b (false_lit ∷ []) ∙ none (number rho b) (2 ^ length b) _ (ap (λ z. bit (not z)) one)
  where
    none : (n p x : ℕ) → x ≡ 0 → n + p * (x + 2 * 0) ≡ n
    none n p x e = rw e (omega arith)

-- the low part is the remainder by the power
pub number-low : (rho : ℕ → Bool) (w : List Lit) (k : ℕ) → k ≤ length w → number rho (take k w) ≡ number rho w % 2 ^ k
number-low rho w k h =
    low_is (number rho (take k w)) (2 ^ k) (number rho (drop k w)) _ (subst (λ z. number rho (take k w) < 2 ^ z) (length-take-le k w h) (number-lt rho (take k w))) (split_number rho w k h)
  where
    low_is : (t p d n : ℕ) → t < p → n ≡ t + p * d → t ≡ n % p
    low_is t p d n small e = sym (mod-eq_of_lt small) ∙ sym (add-mul-mod_self_left t p d) ∙ ap (λ z. z % p) (sym e)
