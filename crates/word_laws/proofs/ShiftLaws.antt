-- Conversions, shifts and rotations: words that are cut and put together.
use Rattle.std.proofs.Common.{◌≡◌, ℕ, zero, suc, ◌+◌, ◌-◌, ◌*◌, ◌/◌, ◌%◌, ◌^◌, ◌<◌, ◌≤◌, Bool, true, false, refl, sym, ◌∙◌, ap, subst, List, [], ◌∷◌, ◌++◌, length, take, drop, replicate, min, arith, length-append, ℤ, pos, ◌+ℤ◌, ◌*ℤ◌, inl, inr}
use Rattle.std.proofs.Math.Nat.{pow-succ', add-mul-mod_self_left, mod-eq_of_lt, div-eq_of_lt, div-lt_iff_lt-mul, mul-le-mul_left, div-div-eq-div-mul}
use Rattle.std.proofs.Math.IntN.{negsuc}
use Rattle.std.proofs.lemmas.Int.{ints}
use Rattle.std.proofs.lemmas.Nat.{pow-add, pow_pos}
use Rattle.std.proofs.lemmas.Bool.{cases_lt}
use Rattle.std.proofs.lemmas.List.{append-nil, length-replicate, length-take-le, length-drop}
use Rattle.num_core.specs.Wrapping.{wrap, DiffersByMultiple}
use Rattle.clause_core.specs.declared.literal.Lit.{Lit}
use Rattle.clause_core.specs.Satisfaction.{literal_true}
use Rattle.gates.specs.Literals.{false_lit}
use Rattle.word_circuits.specs.Words.{zeros, top_of}
use Rattle.word_circuits.specs.Shifts.{moved_up, moved_down, shl_of, shr_of, rol_of, ror_of}
use Rattle.word_circuits.specs.Conversions.{filler, kept_below, resized}
use Rattle.word_laws.specs.Numbers.{bit, number, signed_number, value}
use Rattle.word_laws.specs.Results.{rotated}
use Rattle.word_laws.proofs.Multiples.{differs_then, differs_same, differs_mod, differs_power}
use Rattle.word_laws.proofs.Numbers.{number-lt, number-append, number-false, number-low, powers}
use Rattle.word_laws.proofs.SignedDivisions.{top_of_signed}
use Rattle.word_laws.proofs.Values.{value_differs, value_wraps_at}

-- a word of equal bits
number-copies : (rho : ℕ → Bool) (l : Lit) (k : ℕ) → number rho (replicate k l) + bit (literal_true rho l) ≡ bit (literal_true rho l) * 2 ^ k
number-copies rho l zero = once (bit (literal_true rho l))
  where
    once : (b : ℕ) → 0 + b ≡ b * 1
    once b = omega arith
number-copies rho l (suc k) = doubled (bit (literal_true rho l)) (number rho (replicate k l)) (2 ^ k) _ (number-copies rho l k) (pow-succ' 2 k)
  where
    times_two : (b p : ℕ) → b * (2 * p) ≡ 2 * (b * p)
    times_two b p = omega arith

    doubled : (b n p q : ℕ) → n + b ≡ b * p → q ≡ 2 * p → b + 2 * n + b ≡ b * q
    doubled b n p q e f = rw (f, times_two b p, ← e) (twice b n)
      where
        twice : (b n : ℕ) → b + 2 * n + b ≡ 2 * (n + b)
        twice b n = omega arith

-- the extended word has the value of the word, up to its own power
extended_by : (t : Bool) (n p k f q : ℕ) (s : ℤ) → s +ℤ pos (p * bit t) ≡ pos n → f + bit t ≡ bit t * k → q ≡ p * k → DiffersByMultiple (pos q) s (pos (n + p * f))
extended_by true n p k f q s e h g = (negsuc 0, joined s n p q (p * f) e (g ∙ ap (λ z. p * z) (sym (h ∙ once k)) ∙ spread p f))
  where
    once : (k : ℕ) → 1 * k ≡ k
    once k = omega arith

    spread : (p f : ℕ) → p * (f + 1) ≡ p * f + p
    spread p f = omega arith

    joined : (s : ℤ) (n p q m : ℕ) → s +ℤ pos (p * 1) ≡ pos n → q ≡ m + p → s ≡ pos (n + m) +ℤ (negsuc 0 *ℤ pos q)
    joined s n p q m e g = omega (arith, ints)
extended_by false n p k f q s e h g = subst (λ (z : ℕ). DiffersByMultiple (pos q) s (pos (n + p * z))) (sym (nothing f h)) (pos 0, plain s n p q e)
  where
    nothing : (f : ℕ) → f + 0 ≡ 0 * k → f ≡ 0
    nothing f h = omega arith

    plain : (s : ℤ) (n p q : ℕ) → s +ℤ pos (p * 0) ≡ pos n → s ≡ pos (n + p * 0) +ℤ (pos 0 *ℤ pos q)
    plain s n p q e = omega (arith, ints)

extended_differs : (from : Bool) (rho : ℕ → Bool) (a : List Lit) (k : ℕ) → rho 1 ≡ true → DiffersByMultiple (pos (2 ^ (length a + k))) (value from rho a) (pos (number rho (a ++ replicate k (filler from a))))
extended_differs true rho a k one =
    subst (λ (m : ℕ). DiffersByMultiple (pos (2 ^ (length a + k))) (signed_number rho a) (pos m)) (sym (number-append rho a (replicate k (top_of a))))
    (extended_by (literal_true rho (top_of a)) (number rho a) (2 ^ length a) (2 ^ k) (number rho (replicate k (top_of a))) _ (signed_number rho a) (top_of_signed rho a one) (number-copies rho (top_of a) k) (pow-add 2 (length a) k))
extended_differs false rho a k one =
    subst (λ (m : ℕ). DiffersByMultiple (pos (2 ^ (length a + k))) (pos (number rho a)) (pos m)) (sym (number-append rho a (zeros k) ∙ ap (λ z. number rho a + 2 ^ length a * z) (number-false rho k one) ∙ nothing (number rho a) (2 ^ length a)))
    (differs_same (pos (2 ^ (length a + k))) (pos (number rho a)))
  where
    nothing : (n p : ℕ) → n + p * 0 ≡ n
    nothing n p = omega arith

by_width : (P : ℕ → Type 0) (k n : ℕ) → (k ≤ n → P k) → (n < k → P n) → P (min k n)
by_width P k n few many = elim (cases_lt n k) [ inl h ↦ subst P (over k n h) (many h) | inr h ↦ subst P (under k n h) (few h) ]
  where
    over : (k n : ℕ) → n < k → n ≡ min k n
    over k n h = omega arith

    under : (k n : ℕ) → k ≤ n → k ≡ min k n
    under k n h = omega arith

-- what is kept and what is added, by the smaller of the widths
cut_differs : (from : Bool) (rho : ℕ → Bool) (a : List Lit) (width : ℕ) (fill : Lit) → width ≤ length a → DiffersByMultiple (pos (2 ^ width)) (value from rho a) (pos (number rho (kept_below width width fill a)))
cut_differs from rho a width fill h =
    subst (λ (w : List Lit). DiffersByMultiple (pos (2 ^ width)) (value from rho a) (pos (number rho w))) (sym (ap (λ z. take width a ++ replicate z fill) (nothing width) ∙ append-nil (take width a)))
    (differs_then (pos (2 ^ width)) (value from rho a) (pos (number rho a)) (pos (number rho (take width a)))
    (differs_power (length a - width) width (value from rho a) (pos (number rho a)) (subst (λ (k : ℕ). DiffersByMultiple (pos (2 ^ k)) (value from rho a) (pos (number rho a))) (parts (length a) width h) (value_differs from rho a)))
    (subst (λ (k : ℕ). DiffersByMultiple (pos (2 ^ width)) (pos (number rho a)) (pos k)) (sym (number-low rho a width h)) (differs_mod (2 ^ width) (number rho a))))
  where
    nothing : (n : ℕ) → n - n ≡ 0
    nothing n = omega arith

    parts : (n k : ℕ) → k ≤ n → n ≡ n - k + k
    parts n k h = omega arith

grown_differs : (from : Bool) (rho : ℕ → Bool) (a : List Lit) (width : ℕ) → length a < width → rho 1 ≡ true → DiffersByMultiple (pos (2 ^ width)) (value from rho a) (pos (number rho (kept_below (length a) width (filler from a) a)))
grown_differs from rho a width h one =
    subst (λ (w : List Lit). DiffersByMultiple (pos (2 ^ width)) (value from rho a) (pos (number rho (w ++ replicate (width - length a) (filler from a))))) (sym (take-all a))
    (subst (λ (k : ℕ). DiffersByMultiple (pos (2 ^ k)) (value from rho a) (pos (number rho (a ++ replicate (width - length a) (filler from a))))) (parts (length a) width h) (extended_differs from rho a (width - length a) one))
  where
    parts : (n k : ℕ) → n < k → n + (k - n) ≡ k
    parts n k h = omega arith

    take-all : (w : List Lit) → take (length w) w ≡ w
    take-all [] = refl
    take-all (l ∷ ls) = ap (λ z. l ∷ z) (take-all ls)

pub value-resize : (from to : Bool) (rho : ℕ → Bool) (a : List Lit) (width : ℕ) → 0 < width → 0 < length a → rho 1 ≡ true → value to rho (resized from width a) ≡ wrap width to (value from rho a)
value-resize from to rho a width some long one =
    value_wraps_at to rho (resized from width a) width (value from rho a) (length-resized from width a) some
    (by_width (λ g. DiffersByMultiple (pos (2 ^ width)) (value from rho a) (pos (number rho (kept_below g width (filler from a) a)))) width (length a)
    (λ h. cut_differs from rho a width (filler from a) h) (λ h. grown_differs from rho a width h one))
  where
    length-resized : (from : Bool) (width : ℕ) (a : List Lit) → length (resized from width a) ≡ width
    length-resized from width a = omega (arith, length-append (take (min width (length a)) a) (replicate (width - min width (length a)) (filler from a)), length-take-le (min width (length a)) a (omega arith), length-replicate (width - min width (length a)) (filler from a))

-- shifts
-- what is left above the k lowest bits
number-high : (rho : ℕ → Bool) (a : List Lit) (k : ℕ) → number rho (drop k a) ≡ number rho a / 2 ^ k
number-high rho a zero = whole (number rho a)
  where
    whole : (n : ℕ) → n ≡ n / 1
    whole n = omega arith
number-high rho [] (suc k) = none (2 ^ suc k) (pow_pos (suc k))
  where
    none : (p : ℕ) → 0 < p → 0 ≡ 0 / p
    none p h = sym (div-eq_of_lt h)
number-high rho (l ∷ ls) (suc k) =
    number-high rho ls k ∙ ap (λ z. z / 2 ^ k) (half (literal_true rho l) (number rho ls)) ∙ div-div-eq-div-mul (number rho (l ∷ ls)) 2 (2 ^ k) ∙ ap (λ z. number rho (l ∷ ls) / z) (sym (pow-succ' 2 k))
  where
    half : (b : Bool) (n : ℕ) → n ≡ (bit b + 2 * n) / 2
    half true n = omega arith
    half false n = omega arith

number-moved_down : (rho : ℕ → Bool) (a : List Lit) (k : ℕ) → rho 1 ≡ true → number rho (moved_down k a) ≡ number rho a / 2 ^ k
number-moved_down rho a k one =
    number-append rho (drop k a) (zeros k) ∙ ap (λ z. number rho (drop k a) + 2 ^ length (drop k a) * z) (number-false rho k one) ∙ nothing (number rho (drop k a)) (2 ^ length (drop k a)) ∙ number-high rho a k
  where
    nothing : (n p : ℕ) → n + p * 0 ≡ n
    nothing n p = omega arith

-- a number below the power of the width is nothing beyond it
all_gone : (m n k : ℕ) → m < 2 ^ n → n < k → m / 2 ^ n ≡ m / 2 ^ k
all_gone m n k small h = div-eq_of_lt small ∙ sym (div-eq_of_lt (more m (2 ^ n) (2 ^ k) (2 ^ (k - n)) small (sym (powers n k (less n k h))) (pow_pos (k - n))))
  where
    less : (n k : ℕ) → n < k → n ≤ k
    less n k h = omega arith

    more : (m p q r : ℕ) → m < p → q ≡ p * r → 0 < r → m < q
    more m p q r small e some = omega (arith, mul-le-mul_left p some)

pub number-shr : (rho : ℕ → Bool) (a : List Lit) (k : ℕ) → rho 1 ≡ true → number rho (shr_of k a) ≡ number rho a / 2 ^ k
number-shr rho a k one =
    by_width (λ g. number rho (moved_down g a) ≡ number rho a / 2 ^ k) k (length a) (λ h. number-moved_down rho a k one)
    (λ h. number-moved_down rho a (length a) one ∙ all_gone (number rho a) (length a) k (number-lt rho a) h)

-- a part of a number, moved up
moved_part : (n p q w : ℕ) → w ≡ q * p → 0 < q → 0 < p → p * (n % q) ≡ n * p % w
moved_part n p q w e some pos_p =
    sym (mod-eq_of_lt (bounded (n % q) p q w (omega arith) pos_p e)) ∙ sym (add-mul-mod_self_left (p * (n % q)) w (n / q)) ∙ ap (λ z. z % w) (joined n p q w e)
  where
    bounded : (t p q w : ℕ) → t < q → 0 < p → w ≡ q * p → p * t < w
    bounded t p q w h some e = omega (arith, more p q t h, swap p q)
      where
        swap : (p q : ℕ) → q * p ≡ p * q
        swap p q = omega arith

        more : (p q t : ℕ) → t < q → p * suc t ≤ p * q
        more p q t h = mul-le-mul_left p h

    spread : (p q d m : ℕ) → p * m + q * p * d ≡ (q * d + m) * p
    spread p q d m = omega arith

    parts : (n q : ℕ) → q * (n / q) + n % q ≡ n
    parts n q = omega arith

    joined : (n p q w : ℕ) → w ≡ q * p → p * (n % q) + w * (n / q) ≡ n * p
    joined n p q w e = rw e (spread p q (n / q) (n % q) ∙ ap (λ z. z * p) (parts n q))

number-moved_up : (rho : ℕ → Bool) (a : List Lit) (k : ℕ) → k ≤ length a → rho 1 ≡ true → number rho (moved_up k a) ≡ number rho a * 2 ^ k % 2 ^ length a
number-moved_up rho a k h one =
    number-append rho (zeros k) (take (length a - k) a)
    ∙ ap (λ z. z + 2 ^ length (zeros k) * number rho (take (length a - k) a)) (number-false rho k one)
    ∙ ap (λ z. 0 + 2 ^ z * number rho (take (length a - k) a)) (length-replicate k false_lit)
    ∙ ap (λ z. 0 + 2 ^ k * z) (number-low rho a (length a - k) (omega arith))
    ∙ nothing (2 ^ k * (number rho a % 2 ^ (length a - k)))
    ∙ moved_part (number rho a) (2 ^ k) (2 ^ (length a - k)) (2 ^ length a) (sym (powers k (length a) h) ∙ swap (2 ^ k) (2 ^ (length a - k))) (pow_pos (length a - k)) (pow_pos k)
  where
    nothing : (n : ℕ) → 0 + n ≡ n
    nothing n = omega arith

    swap : (p q : ℕ) → p * q ≡ q * p
    swap p q = omega arith

-- a multiple of the power
multiple_gone : (m n k : ℕ) → n ≤ k → m * 2 ^ k % 2 ^ n ≡ 0
multiple_gone m n k h = ap (λ z. m * z % 2 ^ n) (sym (powers n k h)) ∙ ap (λ z. z % 2 ^ n) (regroup m (2 ^ n) (2 ^ (k - n))) ∙ add-mul-mod_self_left 0 (2 ^ n) (m * 2 ^ (k - n)) ∙ mod-eq_of_lt (pow_pos n)
  where
    regroup : (m p q : ℕ) → m * (p * q) ≡ 0 + p * (m * q)
    regroup m p q = omega arith

pub number-shl : (rho : ℕ → Bool) (a : List Lit) (k : ℕ) → rho 1 ≡ true → number rho (shl_of k a) ≡ number rho a * 2 ^ k % 2 ^ length a
number-shl rho a k one =
    by_width (λ g. number rho (moved_up g a) ≡ number rho a * 2 ^ k % 2 ^ length a) k (length a) (λ h. number-moved_up rho a k h one)
    (λ h. number-moved_up rho a (length a) (omega arith) one ∙ multiple_gone (number rho a) (length a) (length a) (omega arith) ∙ sym (multiple_gone (number rho a) (length a) k (omega arith)))

-- rotations: the high part comes below the low part
turned_number : (n p q w h t : ℕ) → w ≡ q * p → 0 < q → 0 < p → h ≡ n / q → t ≡ n % q → n < w → h + p * t ≡ (n * p + n / q) % w
turned_number n p q w h t e some pos_p eh et small =
    sym (mod-eq_of_lt (fits n p q w h t e some pos_p eh et small)) ∙ sym (add-mul-mod_self_left (h + p * t) w (n / q)) ∙ ap (λ z. z % w) (joined n p q w h t e eh et)
  where
    spread : (p q d m : ℕ) → (q * d + m) * p ≡ q * p * d + p * m
    spread p q d m = omega arith

    parts : (n q : ℕ) → n ≡ q * (n / q) + n % q
    parts n q = omega arith

    joined : (n p q w h t : ℕ) → w ≡ q * p → h ≡ n / q → t ≡ n % q → h + p * t + w * (n / q) ≡ n * p + n / q
    joined n p q w h t e eh et =
        let k : n * p ≡ q * p * (n / q) + p * (n % q) = ap (λ z. z * p) (parts n q) ∙ spread p q (n / q) (n % q) in
        rw (e, eh, et, k) (regroup (n / q) (p * (n % q)) (q * p * (n / q)))
      where
        regroup : (d x y : ℕ) → d + x + y ≡ y + x + d
        regroup d x y = omega arith

    fits : (n p q w h t : ℕ) → w ≡ q * p → 0 < q → 0 < p → h ≡ n / q → t ≡ n % q → n < w → h + p * t < w
    fits n p q w h t e some pos_p eh et small =
        let top : n / q < p = (div-lt_iff_lt-mul some).1 (subst (λ z. n < z) (e ∙ swap p q) small) in
        let low : n % q < q = omega arith in
        bounded h t p q w (subst (λ z. z < p) (sym eh) top) (subst (λ z. z < q) (sym et) low) e
      where
        swap : (p q : ℕ) → q * p ≡ p * q
        swap p q = omega arith

        at_most : (p q t : ℕ) → t < q → p * t + p ≤ p * q
        at_most p q t h = omega (arith, more p q t h)
          where
            more : (p q t : ℕ) → t < q → p * suc t ≤ p * q
            more p q t h = mul-le-mul_left p h

        bounded : (h t p q w : ℕ) → h < p → t < q → w ≡ q * p → h + p * t < w
        bounded h t p q w a b e = omega (arith, at_most p q t b, swap p q)

-- the word in two parts, the upper one below
rotated_word : (rho : ℕ → Bool) (a : List Lit) (j k : ℕ) → j + k ≡ length a → number rho (drop j a ++ take j a) ≡ (number rho a * 2 ^ k + number rho a / 2 ^ j) % 2 ^ length a
rotated_word rho a j k e =
    number-append rho (drop j a) (take j a)
    ∙ ap (λ z. number rho (drop j a) + 2 ^ z * number rho (take j a)) (upper j k (length a) (length-drop j a) e)
    ∙ turned_number (number rho a) (2 ^ k) (2 ^ j) (2 ^ length a) (number rho (drop j a)) (number rho (take j a)) (ap (λ z. 2 ^ z) (sym e) ∙ pow-add 2 j k) (pow_pos j) (pow_pos k) (number-high rho a j) (number-low rho a j (omega arith)) (number-lt rho a)
  where
    upper : (j k n : ℕ) → length (drop j a) ≡ n - j → j + k ≡ n → length (drop j a) ≡ k
    upper j k n h e = omega arith

pub number-rol : (rho : ℕ → Bool) (a : List Lit) (k : ℕ) → 0 < length a → number rho (rol_of k a) ≡ rotated (length a) (k % length a) (number rho a) % 2 ^ length a
number-rol rho a k some = rotated_word rho a (length a - k % length a) (k % length a) (below (length a) (k % length a) (omega arith))
  where
    below : (n j : ℕ) → j < n → n - j + j ≡ n
    below n j h = omega arith

pub number-ror : (rho : ℕ → Bool) (a : List Lit) (k : ℕ) → 0 < length a → number rho (ror_of k a) ≡ rotated (length a) (length a - k % length a) (number rho a) % 2 ^ length a
number-ror rho a k some =
    rotated_word rho a (k % length a) (length a - k % length a) (above (length a) (k % length a) (omega arith))
    ∙ ap (λ z. (number rho a * 2 ^ (length a - k % length a) + number rho a / 2 ^ z) % 2 ^ length a) (twice (length a) (k % length a) (omega arith))
  where
    above : (n j : ℕ) → j < n → j + (n - j) ≡ n
    above n j h = omega arith

    twice : (n j : ℕ) → j < n → j ≡ n - (n - j)
    twice n j h = omega arith
