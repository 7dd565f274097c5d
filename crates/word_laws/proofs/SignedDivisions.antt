-- Division of words of either sign: the parts of a division that truncates.
use Rattle.std.proofs.Common.{◌≡◌, ◌≢◌, ℕ, zero, suc, ◌+◌, ◌*◌, ◌^◌, ◌<◌, ◌≤◌, Bool, true, false, not, refl, sym, ◌∙◌, ap, subst, List, [], ◌∷◌, length, reverse, replicate, arith, ℤ, pos, ◌+ℤ◌, ◌-ℤ◌, ◌*ℤ◌, inl, inr}
use Rattle.std.specs.Prelude.{unsigned_abs, int_div, int_rem, nat_eq}
use Rattle.std.proofs.Math.IntN.{negsuc, zero-*ℤ, *ℤ_comm, pos-*ℤ-pos}
use Rattle.std.proofs.lemmas.Int.{ints}
use Rattle.std.proofs.lemmas.Bool.{false≢true, eqb-true, eqb-false}
use Rattle.std.proofs.lemmas.List.{length-replicate, length-reverse}
use Rattle.num_core.specs.Division.{Divides as DividesInto, IsZeroOrOfSign, quot, rem}
use Rattle.num_core.specs.Wrapping.{wrap, DiffersByMultiple}
use Rattle.num_core.proofs.Quotients.{divides, same_quotient, same_remainder}
use Rattle.clause_core.specs.declared.literal.Lit.{Lit}
use Rattle.clause_core.specs.Values.{negation}
use Rattle.clause_core.specs.Satisfaction.{literal_true}
use Rattle.gates.specs.Literals.{false_lit}
use Rattle.gates.specs.Meaning.{exactly_one}
use Rattle.gates.specs.Models.{IsModel}
use Rattle.gates.specs.Netlists.{Netlist}
use Rattle.gates.specs.Rules.{xor_of}
use Rattle.gates.proofs.Booleans.{literal_true-not}
use Rattle.gates.proofs.NetLaws.{Means-xor}
use Rattle.gates.proofs.Growth.{IsModel-front}
use Rattle.word_circuits.specs.declared.bits.BitOperator.TheVariants.{And}
use Rattle.word_circuits.specs.declared.divide.Part.{Part}
use Rattle.word_circuits.specs.declared.divide.Part.TheVariants.{Quotient, Remainder}
use Rattle.word_circuits.specs.Words.{MadeWord, zeros, top_of}
use Rattle.word_circuits.specs.Sums.{neg_of}
use Rattle.word_circuits.specs.Comparisons.{is_zero_of}
use Rattle.word_circuits.specs.Choices.{negated_where, abs_of}
use Rattle.word_circuits.specs.Divisions.{divide_of, part_of, signed_part_of, ratio_of, masked_of, division_of}
use Rattle.word_circuits.proofs.Growth.{extends_part}
use Rattle.word_laws.specs.Numbers.{bit, number, signed_number, value}
use Rattle.word_laws.specs.Results.{or_zero, divided}
use Rattle.word_laws.proofs.Multiples.{sub-mul, differs_same}
use Rattle.word_laws.proofs.Numbers.{number-lt}
use Rattle.word_laws.proofs.Additions.{Negates-neg, length-neg}
use Rattle.word_laws.proofs.Orders.{Gives-choose, pick, pick_true, pick_false, Compares-zero, length-choose}
use Rattle.word_laws.proofs.Products.{Gives-mask, length-bitwise}
use Rattle.word_laws.proofs.LongDivision.{Divides-divide, length-quotient, length-rest}
use Rattle.word_laws.proofs.Values.{signed_number-top, value_wraps_at}

-- m, or -m where it is negative
abbrev pub with_sign : Bool → ℕ → ℤ
with_sign true m = pos 0 -ℤ pos m
with_sign false m = pos m

-- whether a value is below zero, by the top bit of a signed word
abbrev pub sign_of : Bool → (ℕ → Bool) → List Lit → Bool
sign_of true rho a = literal_true rho (top_of a)
sign_of false rho a = false

-- the parts of a division by the sizes and the signs
neg-times : (x d : ℤ) → (pos 0 -ℤ x) *ℤ d ≡ pos 0 -ℤ (x *ℤ d)
neg-times x d = sub-mul (pos 0) x d ∙ ap (λ (z : ℤ). z -ℤ (x *ℤ d)) (zero-*ℤ d)

times-neg : (x d : ℤ) → x *ℤ (pos 0 -ℤ d) ≡ pos 0 -ℤ (x *ℤ d)
times-neg x d = *ℤ_comm x (pos 0 -ℤ d) ∙ neg-times d x ∙ ap (λ (z : ℤ). pos 0 -ℤ z) (*ℤ_comm d x)

signs_times : (s t : Bool) (q b : ℕ) → with_sign (exactly_one s t) q *ℤ with_sign t b ≡ with_sign s (q * b)
signs_times false false q b = pos-*ℤ-pos q b
signs_times false true q b = neg-times (pos q) (pos 0 -ℤ pos b) ∙ ap (λ (z : ℤ). pos 0 -ℤ z) (times-neg (pos q) (pos b) ∙ ap (λ (z : ℤ). pos 0 -ℤ z) (pos-*ℤ-pos q b)) ∙ twice (q * b)
  where
    twice : (n : ℕ) → pos 0 -ℤ (pos 0 -ℤ pos n) ≡ pos n
    twice n = omega (arith, ints)
signs_times true false q b = neg-times (pos q) (pos b) ∙ ap (λ (z : ℤ). pos 0 -ℤ z) (pos-*ℤ-pos q b)
signs_times true true q b = times-neg (pos q) (pos b) ∙ ap (λ (z : ℤ). pos 0 -ℤ z) (pos-*ℤ-pos q b)

pub abs_sign : (t : Bool) (m : ℕ) → unsigned_abs (with_sign t m) ≡ m
abs_sign false m = refl
abs_sign true zero = refl
abs_sign true (suc m) = ap unsigned_abs (below m)
  where
    below : (m : ℕ) → pos 0 -ℤ pos (suc m) ≡ negsuc m
    below m = omega (arith, ints)

sign_sum : (t : Bool) (m n k : ℕ) → m + n ≡ k → with_sign t k ≡ with_sign t m +ℤ with_sign t n
sign_sum false m n k e = omega (arith, ints)
sign_sum true m n k e = omega (arith, ints)

sign_kept : (t : Bool) (m r : ℕ) → r ≤ m → IsZeroOrOfSign (with_sign t m) (with_sign t r)
sign_kept t m zero h = inl (nothing t)
  where
    nothing : (t : Bool) → with_sign t 0 ≡ pos 0
    nothing true = refl
    nothing false = refl
sign_kept true m (suc r) h = inr (λ k. omega (arith, ints), λ k. omega (arith, ints))
sign_kept false m (suc r) h = inr (λ k. absurd (omega (arith, ints)), λ k. absurd (omega (arith, ints)))

parts_divide : (s t : Bool) (a b q r : ℕ) → q * b + r ≡ a → r < b → DividesInto (with_sign s a) (with_sign t b) (with_sign (exactly_one s t) q) (with_sign s r)
parts_divide s t a b q r e h = record {
  whole = sign_sum s (q * b) r a e ∙ ap (λ (z : ℤ). z +ℤ with_sign s r) (sym (signs_times s t q b));
  near = subst (λ n. n < unsigned_abs (with_sign t b)) (sym (abs_sign s r)) (subst (λ n. r < n) (sym (abs_sign t b)) h);
  sign = sign_kept s a r (rest_small (q * b) r a e);
}
  where
    rest_small : (p r a : ℕ) → p + r ≡ a → r ≤ a
    rest_small p r a e = omega arith

-- what is wanted of a division by something that is not zero
some_quotient : (a b : ℤ) → b ≢ pos 0 → or_zero (quot a b) ≡ int_div a b
some_quotient a (pos zero) h = absurd (h refl)
some_quotient a (pos (suc n)) h = refl
some_quotient a (negsuc n) h = refl

some_remainder : (a b : ℤ) → b ≢ pos 0 → or_zero (rem a b) ≡ int_rem a b
some_remainder a (pos zero) h = absurd (h refl)
some_remainder a (pos (suc n)) h = refl
some_remainder a (negsuc n) h = refl

-- the size and the sign of a part
part_size : Part → ℕ → ℕ → ℕ
part_size Quotient q r = q
part_size Remainder q r = r

part_sign : Part → Bool → Bool → Bool
part_sign Quotient s t = exactly_one s t
part_sign Remainder s t = s

divided_is : (p : Part) (s t : Bool) (a b q r : ℕ) (x y : ℤ) → x ≡ with_sign s a → y ≡ with_sign t b → q * b + r ≡ a → r < b → y ≢ pos 0 → divided p x y ≡ with_sign (part_sign p s t) (part_size p q r)
unfolding part_size part_sign
divided_is Quotient s t a b q r x y ex ey e h other =
    some_quotient x y other ∙ same_quotient x y (int_div x y) (int_rem x y) _ _ (divides x y other)
    (subst (λ (z : ℤ). DividesInto z y (with_sign (exactly_one s t) q) (with_sign s r)) (sym ex) (subst (λ (z : ℤ). DividesInto (with_sign s a) z (with_sign (exactly_one s t) q) (with_sign s r)) (sym ey) (parts_divide s t a b q r e h)))
divided_is Remainder s t a b q r x y ex ey e h other =
    some_remainder x y other ∙ same_remainder x y (int_div x y) (int_rem x y) _ _ (divides x y other)
    (subst (λ (z : ℤ). DividesInto z y (with_sign (exactly_one s t) q) (with_sign s r)) (sym ex) (subst (λ (z : ℤ). DividesInto (with_sign s a) z (with_sign (exactly_one s t) q) (with_sign s r)) (sym ey) (parts_divide s t a b q r e h)))

not_zero : (b n : ℕ) → 0 < n → 0 < b + 2 * n
not_zero b n h = omega arith

top-number : (rho : ℕ → Bool) (w : List Lit) → rho 1 ≡ true → literal_true rho (top_of w) ≡ true → 0 < number rho w
top-number rho [] one h = absurd (false≢true (sym (ap not one) ∙ h))
top-number rho (l ∷ []) one h = subst (λ z. 0 < bit z + 2 * 0) (sym h) (omega arith)
top-number rho (l ∷ m ∷ ls) one h = not_zero (bit (literal_true rho l)) (number rho (m ∷ ls)) (top-number rho (m ∷ ls) one h)

-- the number without its sign, by the sign
sign_off : (t k : Bool) (p a g m : ℕ) (s : ℤ) → s +ℤ pos (p * bit t) ≡ pos a → g + p * bit k + a ≡ p → (t ≡ true → 0 < a) → (t ≡ true → m ≡ g) → (t ≡ false → m ≡ a) → s ≡ with_sign t m
sign_off true true p a g m s e f positive on off = absurd (let h : 0 < a = positive refl in omega arith)
sign_off true false p a g m s e f positive on off = let h : m ≡ g = on refl in omega (arith, ints)
sign_off false k p a g m s e f positive on off = let h : m ≡ a = off refl in omega (arith, ints)

-- a word's size: the number without its sign
pub record Magnitude (rho : ℕ → Bool) (n : Netlist) (r : MadeWord) (s : Bool) (a : List Lit) : Type 0 where
  pub model : IsModel rho n
  pub long : length r.word ≡ length a
  pub value_is : value s rho a ≡ with_sign (sign_of s rho a) (number rho r.word)

pub top_of_signed : (rho : ℕ → Bool) (a : List Lit) → rho 1 ≡ true → signed_number rho a +ℤ pos (2 ^ length a * bit (literal_true rho (top_of a))) ≡ pos (number rho a)
top_of_signed rho [] one = no_bit _ (ap (λ z. bit (not z)) one)
  where
    no_bit : (b : ℕ) → b ≡ 0 → pos 0 +ℤ pos (1 * b) ≡ pos 0
    no_bit b e = omega (arith, ints)
top_of_signed rho (l ∷ ls) one = signed_number-top rho l ls

pub Magnitude-abs : (rho : ℕ → Bool) (s : Bool) (a : List Lit) (n : Netlist) → IsModel rho (abs_of s a n).net → Magnitude rho n (abs_of s a n) s a
Magnitude-abs rho false a n m = record { model = m; long = refl; value_is = refl }
Magnitude-abs rho true a n m =
    let g = neg_of a n in
    let t = literal_true rho (top_of a) in
    let c = Gives-choose rho (top_of a) g.word a g.net (length-neg a n) m in
    let k = Negates-neg rho a n c.model in
    record {
      model = k.model;
      long = c.long ∙ length-neg a n;
      value_is = sign_off t (literal_true rho g.carry) (2 ^ length a) (number rho a) (number rho g.word) _ _ (top_of_signed rho a k.model.one) k.value (top-number rho a k.model.one)
          (λ h. c.number_is ∙ pick_true t _ _ h) (λ h. c.number_is ∙ pick_false t _ _ h);
    }

-- zero as a word is zero as a value
zero_by : (t : Bool) (p n : ℕ) (s : ℤ) → s +ℤ pos (p * bit t) ≡ pos n → (t ≡ true → 0 < n) → n ≡ 0 → s ≡ pos 0
zero_by true p n s e positive z = absurd (let h : 0 < n = positive refl in omega arith)
zero_by false p n s e positive z = omega (arith, ints)

value_zero : (rho : ℕ → Bool) (s : Bool) (b : List Lit) → rho 1 ≡ true → number rho b ≡ 0 → value s rho b ≡ pos 0
value_zero rho false b one e = ap pos e
value_zero rho true b one e = zero_by (literal_true rho (top_of b)) (2 ^ length b) (number rho b) _ (top_of_signed rho b one) (top-number rho b one) e

other_by : (t : Bool) (p n : ℕ) (s : ℤ) → s +ℤ pos (p * bit t) ≡ pos n → n < p → s ≡ pos 0 → n ≡ 0
other_by true p n s e small z = absurd (omega (arith, ints))
other_by false p n s e small z = omega (arith, ints)

value_other : (rho : ℕ → Bool) (s : Bool) (b : List Lit) → rho 1 ≡ true → (number rho b ≡ 0 → ⊥) → value s rho b ≢ pos 0
value_other rho false b one h e = h (plain _ e)
  where
    plain : (n : ℕ) → pos n ≡ pos 0 → n ≡ 0
    plain n e = omega (arith, ints)
value_other rho true b one h e = h (other_by (literal_true rho (top_of b)) (2 ^ length b) (number rho b) _ (top_of_signed rho b one) (number-lt rho b) e)

size_positive : (t : Bool) (m : ℕ) (s : ℤ) → s ≡ with_sign t m → s ≢ pos 0 → 0 < m
size_positive t (suc m) s e h = omega arith
size_positive true zero s e h = absurd (h (omega (arith, ints)))
size_positive false zero s e h = absurd (h e)

-- a word with its sign, up to its power
turned_same : (p r : ℕ) (x : ℤ) → x ≡ pos r → DiffersByMultiple (pos p) x (pos r)
turned_same p r x e = subst (λ (z : ℤ). DiffersByMultiple (pos p) z (pos r)) (sym e) (differs_same (pos p) (pos r))

turned_to : (s k : Bool) (p q g r : ℕ) → g + p * bit k + q ≡ p → r ≡ pick s g q → DiffersByMultiple (pos p) (with_sign s q) (pos r)
turned_to true true p q g r e f = let h : r ≡ g = f ∙ pick_true true g q refl in turned_same p r (with_sign true q) (omega (arith, ints))
turned_to true false p q g r e f = let h : r ≡ g = f ∙ pick_true true g q refl in (negsuc 0, omega (arith, ints))
turned_to false k p q g r e f = let h : r ≡ q = f ∙ pick_false false g q refl in turned_same p r (pos q) (omega (arith, ints))

pub record Negated (rho : ℕ → Bool) (n : Netlist) (r : MadeWord) (c : Lit) (a : List Lit) : Type 0 where
  pub model : IsModel rho n
  pub long : length r.word ≡ length a
  pub differs : DiffersByMultiple (pos (2 ^ length a)) (with_sign (literal_true rho c) (number rho a)) (pos (number rho r.word))

Negated-where : (rho : ℕ → Bool) (c : Lit) (a : List Lit) (n : Netlist) → IsModel rho (negated_where c a n).net → Negated rho n (negated_where c a n) c a
Negated-where rho c a n m =
    let g = neg_of a n in
    let h = Gives-choose rho c g.word a g.net (length-neg a n) m in
    let k = Negates-neg rho a n h.model in
    record { model = k.model; long = h.long ∙ length-neg a n; differs = turned_to (literal_true rho c) (literal_true rho g.carry) (2 ^ length a) (number rho a) (number rho g.word) _ k.value h.number_is }

-- lengths
reversed_length : (w : List Lit) → length (reverse w) + 0 ≡ length w
reversed_length w = omega (arith, length-reverse w)

length-part : (p : Part) (a b : List Lit) (n : Netlist) → length a ≡ length b → length (part_of p (divide_of a b n)).word ≡ length a
length-part Quotient a b n e = length-quotient (reverse a) b (zeros (length b)) [] n ∙ reversed_length a
length-part Remainder a b n e = length-rest (reverse a) b (zeros (length b)) [] n (length-replicate (length b) false_lit) ∙ sym e

pub length-negated : (c : Lit) (a : List Lit) (n : Netlist) → length (negated_where c a n).word ≡ length a
length-negated c a n = length-choose c (neg_of a n).word a (neg_of a n).net (length-neg a n) ∙ length-neg a n

pub length-abs : (s : Bool) (a : List Lit) (n : Netlist) → length (abs_of s a n).word ≡ length a
length-abs true a n = length-negated (top_of a) a n
length-abs false a n = refl

length-signed : (p : Part) (x y : Lit) (r : MadeWord) → length (signed_part_of p x y r).word ≡ length r.word
unfolding signed_part_of
length-signed Quotient x y r = length-negated (xor_of x y r.net).lit r.word (xor_of x y r.net).net
length-signed Remainder x y r = length-negated x r.word r.net

length-ratio : (p : Part) (s : Bool) (a b : List Lit) (n : Netlist) → length a ≡ length b → length (ratio_of p s a b n).word ≡ length a
unfolding ratio_of
length-ratio p false a b n e = length-part p a b n e
length-ratio p true a b n e =
    let dividend = abs_of true a n in
    let divisor = abs_of true b dividend.net in
    length-signed p (top_of a) (top_of b) (part_of p (divide_of dividend.word divisor.word divisor.net))
    ∙ length-part p dividend.word divisor.word divisor.net (length-abs true a n ∙ e ∙ sym (length-abs true b dividend.net)) ∙ length-abs true a n

-- the wanted part of an unsigned division
record PartOf (rho : ℕ → Bool) (n : Netlist) (p : Part) (r : MadeWord) (a b : ℕ) : Type 0 where
  pub model : IsModel rho n
  pub quotient : ℕ
  pub rest : ℕ
  pub is : number rho r.word ≡ part_size p quotient rest
  pub whole : quotient * b + rest ≡ a
  pub below : rest < b

PartOf-divide : (rho : ℕ → Bool) (p : Part) (a b : List Lit) (n : Netlist) → 0 < number rho b → IsModel rho (part_of p (divide_of a b n)).net → PartOf rho n p (part_of p (divide_of a b n)) (number rho a) (number rho b)
unfolding part_size
PartOf-divide rho Quotient a b n some m =
    let d = divide_of a b n in
    let h = Divides-divide rho a b n some m in
    record { model = h.model; quotient = number rho d.quotient; rest = number rho d.rest; is = refl; whole = h.value; below = h.below }
PartOf-divide rho Remainder a b n some m =
    let d = divide_of a b n in
    let h = Divides-divide rho a b n some m in
    record { model = h.model; quotient = number rho d.quotient; rest = number rho d.rest; is = refl; whole = h.value; below = h.below }

-- a word whose number is x up to its power, and the circuit before
pub record Differs (rho : ℕ → Bool) (n : Netlist) (r : MadeWord) (w : ℕ) (x : ℤ) : Type 0 where
  pub model : IsModel rho n
  pub differs : DiffersByMultiple (pos (2 ^ w)) x (pos (number rho r.word))

-- the sign put on a part
Differs-signed : (rho : ℕ → Bool) (p : Part) (x y : Lit) (r : MadeWord) → IsModel rho (signed_part_of p x y r).net → Differs rho r.net (signed_part_of p x y r) (length r.word) (with_sign (part_sign p (literal_true rho x) (literal_true rho y)) (number rho r.word))
unfolding signed_part_of part_sign
Differs-signed rho Quotient x y r m =
    let s = xor_of x y r.net in
    let h = Negated-where rho s.lit r.word s.net m in
    let k = Means-xor rho x y r.net h.model in
    record { model = k.model; differs = subst (λ t. DiffersByMultiple (pos (2 ^ length r.word)) (with_sign t (number rho r.word)) (pos (number rho (negated_where s.lit r.word s.net).word))) k.value h.differs }
Differs-signed rho Remainder x y r m =
    let h = Negated-where rho x r.word r.net m in
    record { model = h.model; differs = h.differs }

unsigned_sign : (p : Part) (m : ℕ) → with_sign (part_sign p false false) m ≡ pos m
unfolding part_sign
unsigned_sign Quotient m = refl
unsigned_sign Remainder m = refl

-- the wanted part of a division by a word that is not zero
Differs-ratio : (rho : ℕ → Bool) (p : Part) (s : Bool) (a b : List Lit) (n : Netlist) → length a ≡ length b → value s rho b ≢ pos 0 → IsModel rho (ratio_of p s a b n).net → Differs rho n (ratio_of p s a b n) (length a) (divided p (value s rho a) (value s rho b))
unfolding ratio_of
Differs-ratio rho p false a b n e other m =
    let h = PartOf-divide rho p a b n (size_positive false (number rho b) _ refl other) m in
    let r = part_of p (divide_of a b n) in
    let is = divided_is p false false (number rho a) (number rho b) h.quotient h.rest _ _ refl refl h.whole h.below other ∙ unsigned_sign p _ ∙ ap pos (sym h.is) in
    record { model = h.model; differs = subst (λ (x : ℤ). DiffersByMultiple (pos (2 ^ length a)) x (pos (number rho r.word))) (sym is) (differs_same (pos (2 ^ length a)) (pos (number rho r.word))) }
Differs-ratio rho p true a b n e other m =
    let dividend = abs_of true a n in
    let divisor = abs_of true b dividend.net in
    let part = part_of p (divide_of dividend.word divisor.word divisor.net) in
    let sp = Differs-signed rho p (top_of a) (top_of b) part m in
    let before : IsModel rho divisor.net = IsModel-front rho divisor.net part.net (extends_part p dividend.word divisor.word divisor.net) sp.model in
    let hb = Magnitude-abs rho true b dividend.net before in
    let ha = Magnitude-abs rho true a n hb.model in
    let v = PartOf-divide rho p dividend.word divisor.word divisor.net (size_positive _ _ _ hb.value_is other) sp.model in
    let long : length part.word ≡ length a = length-part p dividend.word divisor.word divisor.net (ha.long ∙ e ∙ sym hb.long) ∙ ha.long in
    let r = signed_part_of p (top_of a) (top_of b) part in
    let is = divided_is p (literal_true rho (top_of a)) (literal_true rho (top_of b)) (number rho dividend.word) (number rho divisor.word) v.quotient v.rest _ _ ha.value_is hb.value_is v.whole v.below other
    ∙ ap (with_sign (part_sign p (literal_true rho (top_of a)) (literal_true rho (top_of b)))) (sym v.is) in
    record {
      model = ha.model;
      differs = subst (λ (x : ℤ). DiffersByMultiple (pos (2 ^ length a)) x (pos (number rho r.word))) (sym is)
          (subst (λ k. DiffersByMultiple (pos (2 ^ k)) (with_sign (part_sign p (literal_true rho (top_of a)) (literal_true rho (top_of b))) (number rho part.word)) (pos (number rho r.word))) long sp.differs);
    }

-- zero where the divisor is
masked_zero : (t : Bool) (m r : ℕ) → t ≡ true → r ≡ bit (not t) * m → r ≡ 0
masked_zero true m r h e = e ∙ nothing m
  where
    nothing : (m : ℕ) → 0 * m ≡ 0
    nothing m = omega arith
masked_zero false m r h e = absurd (false≢true h)

masked_other : (t : Bool) (m r : ℕ) → t ≡ false → r ≡ bit (not t) * m → r ≡ m
masked_other true m r h e = absurd (false≢true (sym h))
masked_other false m r h e = e ∙ once m
  where
    once : (m : ℕ) → 1 * m ≡ m
    once m = omega arith

divided_zero : (p : Part) (x : ℤ) → divided p x (pos 0) ≡ pos 0
divided_zero Quotient x = refl
divided_zero Remainder x = refl

record Masked (rho : ℕ → Bool) (b : List Lit) (r : MadeWord) : Type 0 where
  pub model : IsModel rho r.net
  pub is : number rho (masked_of b r).word ≡ bit (not (nat_eq (number rho b) 0)) * number rho r.word

Masked-masked : (rho : ℕ → Bool) (b : List Lit) (r : MadeWord) → IsModel rho (masked_of b r).net → Masked rho b r
unfolding masked_of
Masked-masked rho b r m =
    let z = is_zero_of b r.net in
    let g = Gives-mask rho r.word (negation z.lit) z.net m in
    let h = Compares-zero rho b r.net g.model in
    record { model = h.model; is = g.number_is ∙ ap (λ t. bit t * number rho r.word) (literal_true-not rho z.lit ∙ ap not h.value) }

length-masked : (b : List Lit) (r : MadeWord) → length (masked_of b r).word ≡ length r.word
unfolding masked_of
length-masked b r = length-bitwise And (replicate (length r.word) (negation (is_zero_of b r.net).lit)) r.word (is_zero_of b r.net).net (length-replicate (length r.word) _) ∙ length-replicate (length r.word) _

pub length-division : (p : Part) (s : Bool) (a b : List Lit) (n : Netlist) → length a ≡ length b → length (division_of p s a b n).word ≡ length a
unfolding division_of
length-division p s a b n e = length-masked b (ratio_of p s a b n) ∙ length-ratio p s a b n e

by_divisor : (rho : ℕ → Bool) (p : Part) (s t : Bool) (a b : List Lit) (n : Netlist) → nat_eq (number rho b) 0 ≡ t → length a ≡ length b → IsModel rho (masked_of b (ratio_of p s a b n)).net
    → DiffersByMultiple (pos (2 ^ length a)) (divided p (value s rho a) (value s rho b)) (pos (number rho (masked_of b (ratio_of p s a b n)).word))
by_divisor rho p s true a b n t e m =
    let k = Masked-masked rho b (ratio_of p s a b n) m in
    let zero_word = masked_zero _ (number rho (ratio_of p s a b n).word) _ t k.is in
    let zero_value = ap (divided p (value s rho a)) (value_zero rho s b m.one (eqb-true (number rho b) 0 t)) ∙ divided_zero p (value s rho a) in
    subst (λ (x : ℤ). DiffersByMultiple (pos (2 ^ length a)) x (pos (number rho (masked_of b (ratio_of p s a b n)).word))) (sym zero_value)
    (subst (λ (j : ℕ). DiffersByMultiple (pos (2 ^ length a)) (pos 0) (pos j)) (sym zero_word) (differs_same (pos (2 ^ length a)) (pos 0)))
by_divisor rho p s false a b n t e m =
    let k = Masked-masked rho b (ratio_of p s a b n) m in
    let same = masked_other _ (number rho (ratio_of p s a b n).word) _ t k.is in
    let h = Differs-ratio rho p s a b n e (value_other rho s b m.one (eqb-false (number rho b) 0 t)) k.model in
    subst (λ (j : ℕ). DiffersByMultiple (pos (2 ^ length a)) (divided p (value s rho a) (value s rho b)) (pos j)) (sym same) h.differs

pub value-division : (p : Part) (s : Bool) (rho : ℕ → Bool) (a b : List Lit) (n : Netlist) → 0 < length a → length a ≡ length b → IsModel rho (division_of p s a b n).net → value s rho (division_of p s a b n).word ≡ wrap (length a) s (divided p (value s rho a) (value s rho b))
unfolding division_of
value-division p s rho a b n some e m =
    value_wraps_at s rho (masked_of b (ratio_of p s a b n)).word (length a) _ (length-masked b (ratio_of p s a b n) ∙ length-ratio p s a b n e) some (by_divisor rho p s (nat_eq (number rho b) 0) a b n refl e m)
