-- Words as values of a width and sign.
use Rattle.std.proofs.Common.{◌≡◌, ℕ, suc, ◌+◌, ◌*◌, ◌-◌, ◌^◌, ◌<◌, ◌≤◌, Bool, true, false, not, refl, sym, ◌∙◌, ap, subst, List, [], ◌∷◌, length, arith, ℤ, pos, ◌+ℤ◌, ◌-ℤ◌, cond}
use Rattle.std.specs.Prelude.{nat_lt, nat_eq, int_lt, int_le, ◌<ℤ◌, ◌≤ℤ◌, neg_ℤ}
use Rattle.std.specs.Ordering.{int_eq}
use Rattle.std.proofs.Math.Nat.{pow-succ'}
use Rattle.std.proofs.lemmas.Nat.{pow_pos}
use Rattle.std.specs.Ordering.{is_eq}
use Rattle.std.specs.declared.cmp.Ordering.TheVariants.{Less, Equal, Greater}
use Rattle.std.proofs.lemmas.Int.{ints, by_lt_z}
use Rattle.std.proofs.lemmas.Bool.{ltb-true, ltb-false, eqb-true, eqb-false}
use Rattle.num_core.specs.Ranges.{lowest, highest, Fits}
use Rattle.num_core.specs.Wrapping.{wrap, DiffersByMultiple}
use Rattle.num_core.proofs.Wrapped.{wrap_is}
use Rattle.clause_core.specs.declared.literal.Lit.{Lit}
use Rattle.clause_core.specs.Values.{negation}
use Rattle.clause_core.specs.Satisfaction.{literal_true}
use Rattle.gates.proofs.Booleans.{literal_true-not}
use Rattle.word_circuits.specs.Words.{top_of}
use Rattle.word_circuits.specs.Comparisons.{flip_top, biased}
use Rattle.word_laws.specs.Numbers.{bit, number, signed_number, value}
use Rattle.word_laws.proofs.Numbers.{number-lt, power_step}
use Rattle.word_laws.proofs.Multiples.{differs_same, differs_then, differs_back}

flip_bit : (b : Bool) → pos (bit (not b)) ≡ pos 0 -ℤ pos (bit b) +ℤ pos 1
flip_bit true = refl
flip_bit false = refl

one_more : (x y : ℕ) (z : ℤ) → x ≡ y → pos y ≡ z → pos (x + 2 * 0) ≡ z
one_more x y z e f = ap pos (plain x) ∙ ap pos e ∙ f
  where
    plain : (x : ℕ) → x + 2 * 0 ≡ x
    plain x = omega arith

bias_step : (b n h p : ℕ) (s : ℤ) → pos n ≡ s +ℤ pos h → p ≡ 2 * h → pos (b + 2 * n) ≡ pos b +ℤ s +ℤ s +ℤ pos p
bias_step b n h p s e f = omega (arith, ints)

-- the word with its top literal negated is above the signed number by half its range
number-flip_top : (rho : ℕ → Bool) (l : Lit) (ls : List Lit) → pos (number rho (flip_top (l ∷ ls))) ≡ signed_number rho (l ∷ ls) +ℤ pos (2 ^ length ls)
number-flip_top rho l [] = one_more (bit (literal_true rho (negation l))) (bit (not (literal_true rho l))) _ (ap bit (literal_true-not rho l)) (flip_bit (literal_true rho l))
number-flip_top rho l (m ∷ ls) = bias_step (bit (literal_true rho l)) (number rho (flip_top (m ∷ ls))) (2 ^ length ls) (2 ^ suc (length ls)) (signed_number rho (m ∷ ls)) (number-flip_top rho m ls) (pow-succ' 2 (length ls))

pub length-flip_top : (w : List Lit) → length (flip_top w) ≡ length w
length-flip_top [] = refl
length-flip_top (l ∷ []) = refl
length-flip_top (l ∷ m ∷ ls) = ap suc (length-flip_top (m ∷ ls))

pub length-biased : (s : Bool) (w : List Lit) → length (biased s w) ≡ length w
length-biased true w = length-flip_top w
length-biased false w = refl

one_bit : (b : ℕ) → pos 0 -ℤ pos b +ℤ pos (2 * b) ≡ pos (b + 2 * 0)
one_bit b = omega (arith, ints)

more_bits : (b n p q : ℕ) (s : ℤ) → s +ℤ pos p ≡ pos n → q ≡ 2 * p → pos b +ℤ s +ℤ s +ℤ pos q ≡ pos (b + 2 * n)
more_bits b n p q s e f = omega (arith, ints)

-- the signed number is below the unsigned one by the word's power where the top bit is set
pub signed_number-top : (rho : ℕ → Bool) (l : Lit) (ls : List Lit) → signed_number rho (l ∷ ls) +ℤ pos (2 ^ length (l ∷ ls) * bit (literal_true rho (top_of (l ∷ ls)))) ≡ pos (number rho (l ∷ ls))
signed_number-top rho l [] = one_bit (bit (literal_true rho l))
signed_number-top rho l (m ∷ ls) =
    more_bits (bit (literal_true rho l)) (number rho (m ∷ ls)) _ _ _ (signed_number-top rho m ls) (power_step (length (m ∷ ls)) (bit (literal_true rho (top_of (m ∷ ls)))))

-- a value lies in the range of its width and sign
value_fits : (s : Bool) (rho : ℕ → Bool) (w : List Lit) → 0 < length w → Fits (lowest (length w) s) (highest (length w) s) (value s rho w)
value_fits s rho [] h = absurd (omega arith)
value_fits false rho (l ∷ ls) h = let small : number rho (l ∷ ls) < 2 ^ length (l ∷ ls) = number-lt rho (l ∷ ls) in in_unsigned (number rho (l ∷ ls)) (2 ^ length (l ∷ ls)) small
  where
    in_unsigned : (n p : ℕ) → n < p → Fits (pos 0) (pos (p - 1)) (pos n)
    in_unsigned n p h = (omega (arith, ints), omega (arith, ints))
value_fits true rho (l ∷ ls) h =
    let w = l ∷ ls in
    subst (λ (k : ℕ). Fits (neg_ℤ (pos (2 ^ k))) (pos (2 ^ k - 1)) (signed_number rho w)) (less_one (length ls))
    (in_signed (number rho (flip_top w)) (2 ^ length ls) _ (signed_number rho w) (number-flip_top rho l ls)
    (subst (λ k. number rho (flip_top w) < 2 ^ k) (length-flip_top w) (number-lt rho (flip_top w))) (pow-succ' 2 (length ls)) (pow_pos (length ls)))
  where
    less_one : (n : ℕ) → n ≡ suc n - 1
    less_one n = omega arith

    in_signed : (f h p : ℕ) (s : ℤ) → pos f ≡ s +ℤ pos h → f < p → p ≡ 2 * h → 0 < h → Fits (neg_ℤ (pos h)) (pos (h - 1)) s
    in_signed f h p s e k g some = (omega (arith, ints), omega (arith, ints))

-- a value and the word's number differ by a multiple of its power
pub value_differs : (s : Bool) (rho : ℕ → Bool) (w : List Lit) → DiffersByMultiple (pos (2 ^ length w)) (value s rho w) (pos (number rho w))
value_differs false rho w = differs_same (pos (2 ^ length w)) (pos (number rho w))
value_differs true rho [] = differs_same (pos 1) (pos 0)
value_differs true rho (l ∷ ls) =
    let w = l ∷ ls in
    let t = bit (literal_true rho (top_of w)) in
    differs_back (pos (2 ^ length w)) (pos (number rho w)) (signed_number rho w)
    (pos t, sym (signed_number-top rho l ls) ∙ ap (λ (n : ℕ). signed_number rho w +ℤ pos n) (swap (2 ^ length w) t))
  where
    swap : (p t : ℕ) → p * t ≡ t * p
    swap p t = omega arith

-- so a word whose number differs from x by a multiple has the value that wraps x
pub value_wraps : (s : Bool) (rho : ℕ → Bool) (w : List Lit) (x : ℤ) → 0 < length w → DiffersByMultiple (pos (2 ^ length w)) x (pos (number rho w)) → value s rho w ≡ wrap (length w) s x
value_wraps s rho w x some d =
    wrap_is (length w) s x (value s rho w) some (record {
      in_range = value_fits s rho w some;
      by_multiple = differs_then (pos (2 ^ length w)) x (pos (number rho w)) (value s rho w) d (differs_back (pos (2 ^ length w)) (value s rho w) (pos (number rho w)) (value_differs s rho w));
    })

-- the same, at a length that is known
pub value_wraps_at : (s : Bool) (rho : ℕ → Bool) (w : List Lit) (k : ℕ) (x : ℤ) → length w ≡ k → 0 < k → DiffersByMultiple (pos (2 ^ k)) x (pos (number rho w)) → value s rho w ≡ wrap k s x
value_wraps_at s rho w k x e some d =
    subst (λ (j : ℕ). value s rho w ≡ wrap j s x) e (value_wraps s rho w x (subst (λ (j : ℕ). 0 < j) (sym e) some) (subst (λ (j : ℕ). DiffersByMultiple (pos (2 ^ j)) x (pos (number rho w))) (sym e) d))

-- words of one length and one number have one value
pub value_same : (s : Bool) (rho : ℕ → Bool) (a b : List Lit) → 0 < length b → length a ≡ length b → number rho a ≡ number rho b → value s rho a ≡ value s rho b
value_same s rho a b some e f =
    value_wraps_at s rho a (length b) (pos (number rho b)) e some (subst (λ (n : ℕ). DiffersByMultiple (pos (2 ^ length b)) (pos n) (pos (number rho a))) f (differs_same (pos (2 ^ length b)) (pos (number rho a))))
    ∙ sym (value_wraps s rho b (pos (number rho b)) some (differs_same (pos (2 ^ length b)) (pos (number rho b))))

-- words of one length and one value have one number
pub number_same : (s : Bool) (rho : ℕ → Bool) (a b : List Lit) → 0 < length b → length a ≡ length b → value s rho a ≡ value s rho b → number rho a ≡ number rho b
number_same s rho a b some e f =
    plain _ _ (
    value_wraps_at false rho a (length b) (value s rho a) e some (subst (λ (k : ℕ). DiffersByMultiple (pos (2 ^ k)) (value s rho a) (pos (number rho a))) e (value_differs s rho a))
    ∙ ap (λ (x : ℤ). wrap (length b) false x) f
    ∙ sym (value_wraps false rho b (value s rho b) some (value_differs s rho b)))
  where
    plain : (m n : ℕ) → pos m ≡ pos n → m ≡ n
    plain m n e = omega (arith, ints)

-- comparisons of values
pub lt_true : (x y : ℤ) → x <ℤ y → true ≡ int_lt x y
lt_true x y h = grind (arith, ints)

pub lt_false : (x y : ℤ) → y ≤ℤ x → false ≡ int_lt x y
lt_false x y h = grind (arith, ints)

is_equal : (t u : Bool) → false ≡ t → false ≡ u → is_eq (cond t Less (cond u Greater Equal)) ≡ true
is_equal t u h k = rw (← h, ← k) refl

is_less : (t u : Bool) → true ≡ t → is_eq (cond t Less (cond u Greater Equal)) ≡ false
is_less t u h = rw (← h) refl

is_greater : (t u : Bool) → false ≡ t → true ≡ u → is_eq (cond t Less (cond u Greater Equal)) ≡ false
is_greater t u h k = rw (← h, ← k) refl

eq_true : (x y : ℤ) → x ≡ y → int_eq x y ≡ true
eq_true x y e = is_equal (int_lt x y) (int_lt y x) (lt_false x y (omega (arith, ints))) (lt_false y x (omega (arith, ints)))

eq_false : (x y : ℤ) → (x ≡ y → ⊥) → int_eq x y ≡ false
eq_false x y other =
    by_lt_z x y (λ h. is_less (int_lt x y) (int_lt y x) (lt_true x y h))
    (λ h. by_lt_z y x (λ k. is_greater (int_lt x y) (int_lt y x) (lt_false x y h) (lt_true y x k)) (λ k. absurd (other (omega (arith, ints)))))

pub le_by_lt : (x y : ℤ) → not (int_lt y x) ≡ int_le x y
le_by_lt x y = by_lt_z y x (λ h. over h) (λ h. under h)
  where
    over : y <ℤ x → not (int_lt y x) ≡ int_le x y
    over h = ap not (sym (lt_true y x h)) ∙ grind (arith, ints)

    under : x ≤ℤ y → not (int_lt y x) ≡ int_le x y
    under h = ap not (sym (lt_false y x h)) ∙ grind (arith, ints)

int_lt_by : (t : Bool) (a b h : ℕ) (x y : ℤ) → nat_lt a b ≡ t → pos a ≡ x +ℤ pos h → pos b ≡ y +ℤ pos h → t ≡ int_lt x y
int_lt_by true a b h x y k e f = let l : a < b = ltb-true a b k in lt_true x y (omega (arith, ints))
int_lt_by false a b h x y k e f = let l : b ≤ a = ltb-false a b k in lt_false x y (omega (arith, ints))

pub less_value : (s : Bool) (rho : ℕ → Bool) (a b : List Lit) → 0 < length a → length a ≡ length b → nat_lt (number rho (biased s a)) (number rho (biased s b)) ≡ int_lt (value s rho a) (value s rho b)
less_value s rho [] b h e = absurd (omega arith)
less_value s rho (a ∷ as') [] h e = absurd (omega arith)
less_value false rho (a ∷ as') (b ∷ bs) h e = int_lt_by _ (number rho (a ∷ as')) (number rho (b ∷ bs)) 0 (pos (number rho (a ∷ as'))) (pos (number rho (b ∷ bs))) refl (omega (arith, ints)) (omega (arith, ints))
less_value true rho (a ∷ as') (b ∷ bs) h e =
    int_lt_by _ (number rho (flip_top (a ∷ as'))) (number rho (flip_top (b ∷ bs))) (2 ^ length as') (signed_number rho (a ∷ as')) (signed_number rho (b ∷ bs)) refl (number-flip_top rho a as')
    (number-flip_top rho b bs ∙ ap (λ (k : ℕ). signed_number rho (b ∷ bs) +ℤ pos (2 ^ k)) (pred_same (length as') (length bs) e))
  where
    pred_same : (m n : ℕ) → suc m ≡ suc n → n ≡ m
    pred_same m n e = omega arith

eq_by : (t : Bool) (m n : ℕ) (x y : ℤ) → nat_eq m n ≡ t → (m ≡ n → x ≡ y) → (x ≡ y → m ≡ n) → t ≡ int_eq x y
eq_by true m n x y h to from = sym (eq_true x y (to (eqb-true m n h)))
eq_by false m n x y h to from = sym (eq_false x y (λ e. eqb-false m n h (from e)))

pub equal_value : (s : Bool) (rho : ℕ → Bool) (a b : List Lit) → 0 < length a → length a ≡ length b → nat_eq (number rho a) (number rho b) ≡ int_eq (value s rho a) (value s rho b)
equal_value s rho a b some e =
    let long : 0 < length b = subst (λ (k : ℕ). 0 < k) e some in
    eq_by _ (number rho a) (number rho b) _ _ refl (value_same s rho a b long e) (number_same s rho a b long e)
