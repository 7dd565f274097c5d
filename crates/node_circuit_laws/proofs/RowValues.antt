-- The value of each row: in every model of the circuit, the word that a row makes has the value that its node has, given those of its operands.
use Rattle.std.proofs.Common.{◌≡◌, ◌⊎◌, inl, inr, Option, Some, None, ℕ, ◌+◌, ◌*◌, ◌-◌, ◌^◌, ◌/◌, ◌%◌, ◌<◌, ◌≤◌, Bool, true, false, not, ◌||◌, refl, sym, ◌∙◌, ap, subst, List, [], ◌∷◌, length, ℤ, pos, ◌+ℤ◌, ◌*ℤ◌, arith}
use Rattle.std.specs.Prelude.{nat_eq, nat_lt, int_lt, unsigned_abs, ◌-ℤ◌, neg_ℤ, if◌then◌else◌}
use Rattle.std.specs.Ordering.{int_eq}
use Rattle.std.proofs.Math.Nat.{mul-mod_right, div-eq_of_lt, div-le_self, pow-le-pow_right}
use Rattle.std.proofs.lemmas.Nat.{pow-add}
use Rattle.std.proofs.lemmas.Bool.{false≢true}
use Rattle.std.proofs.lemmas.Bool.Decides.{nat_tests}
use Rattle.std.proofs.lemmas.List.{length-replicate}
use Rattle.num_core.specs.Wrapping.{wrap}
use Rattle.num_core.specs.Division.{quot, rem}
use Rattle.clause_core.specs.declared.literal.Lit.{Lit}
use Rattle.clause_core.specs.Satisfaction.{literal_true}
use Rattle.plc_types.specs.declared.elementary.Elementary.{Elementary}
use Rattle.plc_types.specs.declared.elementary.Elementary.TheVariants as types
use Rattle.plc_types.specs.declared.function.Shift.{Shift}
use Rattle.plc_types.specs.declared.function.Shift.TheVariants as shifts
use Rattle.plc_types.specs.declared.operator.Operator.{Operator}
use Rattle.plc_types.specs.declared.operator.Operator.TheVariants as ops
use Rattle.plc_types.specs.declared.operator.UnaryOperator.{UnaryOperator}
use Rattle.plc_types.specs.declared.operator.UnaryOperator.TheVariants as signs
use Rattle.plc_types.specs.declared.range.Range.{Range}
use Rattle.plc_types.specs.Types.{width_of, is_signed, range_of, in_range, wrap_to}
use Rattle.plc_types.proofs.Widths.{some_bits}
use Rattle.plc_types.proofs.InRange.{not_between}
use Rattle.plc_types.proofs.TypeRanges.{wrapped_same, wrapped_zero}
use Rattle.num_core.proofs.Ranges.{number_wrapped, number_kept}
use Rattle.meaning.specs.Values.{or_zero, number_of, is_truth, is_zero, result_type, unary_applied, applied, converted, shifted, lesser, greater}
use Rattle.gates.specs.Models.{IsModel}
use Rattle.gates.specs.Netlists.{Netlist}
use Rattle.gates.specs.Literals.{false_lit}
use Rattle.word_circuits.specs.declared.bits.BitOperator.{BitOperator}
use Rattle.word_circuits.specs.declared.bits.BitOperator.TheVariants as bits
use Rattle.word_circuits.specs.declared.comparisons.Comparison.{Comparison}
use Rattle.word_circuits.specs.declared.comparisons.Comparison.TheVariants as comparisons
use Rattle.word_circuits.specs.declared.divide.Part.TheVariants as parts
use Rattle.word_circuits.specs.Words.{zeros, top_of, constant_of, bitwise_of}
use Rattle.word_circuits.specs.Comparisons.{comparison_of, is_zero_of, outside_of}
use Rattle.word_circuits.specs.Choices.{choose_of, min_of, max_of, abs_of}
use Rattle.word_circuits.specs.Conversions.{resized}
use Rattle.program_tree.specs.OperandTypes.{is_for}
use Rattle.word_laws.specs.Numbers.{bit, number, value}
use Rattle.word_laws.specs.Results.{combined, compared, divided}
use Rattle.word_laws.specs.Results as turns
use Rattle.word_laws.proofs.Multiples.{differs_same}
use Rattle.word_laws.proofs.Numbers.{number-lt, number-false}
use Rattle.word_laws.proofs.Values.{value_wraps_at, equal_value}
use Rattle.word_laws.proofs.Orders.{Compares-zero, Compares-any}
use Rattle.word_laws.proofs.Products.{length-bitwise}
use Rattle.word_laws.proofs.BitLaws.{value-constant, value-not, number-bitwise}
use Rattle.word_laws.proofs.SumLaws.{value-add, value-sub, value-neg, value-mul}
use Rattle.word_laws.proofs.SignedDivisions.{value-division}
use Rattle.word_laws.proofs.ChoiceLaws.{value-compare, value-outside, value-choose, value-min, value-max, value-abs}
use Rattle.word_laws.proofs.ShiftLaws.{value-resize, number-shl, number-shr, number-rol, number-ror}
use Rattle.node_circuits.specs.Rows.{unary_of, binary_of, conversion_of, shift_of}
use Rattle.node_circuit_laws.proofs.Conversions.{IsResizing, bool_or_resizing}

-- a word of a type has some bits
pub some_of : (t : Elementary) (a : List Lit) → length a ≡ width_of t → 0 < length a
some_of t a e = omega (arith, some_bits t)

-- two names of what a division by zero gives
same_or_zero : (o : Option ℤ) → turns.or_zero o ≡ or_zero o
same_or_zero None = refl
same_or_zero (Some v) = refl

-- ---- words of one bit

bit_value : (b : Bool) → pos (bit b + 2 * 0) ≡ wrap_to types.Bool (number_of b)
bit_value true = refl
bit_value false = refl

plain_bit : (b : Bool) → pos (bit b + 2 * 0) ≡ number_of b
plain_bit true = refl
plain_bit false = refl

-- a literal that tells whether something holds
one_wrapped : (v : ℕ → Bool) (l : Lit) (c : Bool) → literal_true v l ≡ c → value false v (l ∷ []) ≡ wrap_to types.Bool (number_of c)
one_wrapped v l c e = bit_value (literal_true v l) ∙ ap (λ (b : Bool). wrap_to types.Bool (number_of b)) e

one_plain : (v : ℕ → Bool) (l : Lit) (c : Bool) → literal_true v l ≡ c → value false v (l ∷ []) ≡ number_of c
one_plain v l c e = plain_bit (literal_true v l) ∙ ap number_of e

-- whether a word is zero
zero_value : (t : Elementary) (v : ℕ → Bool) (w : List Lit) → length w ≡ width_of t → number v w ≡ 0 → value (is_signed t) v w ≡ pos 0
zero_value t v w e h =
    value_wraps_at (is_signed t) v w (width_of t) (pos 0) e (some_bits t) (rw h (differs_same (pos (2 ^ width_of t)) (pos 0))) ∙ wrapped_zero t

zero_test : (t : Elementary) (v : ℕ → Bool) (a : List Lit) → length a ≡ width_of t → v 1 ≡ true → nat_eq (number v a) 0 ≡ is_zero (value (is_signed t) v a)
zero_test t v a e one =
    let z = zeros (length a) in
    let long : length z ≡ length a = length-replicate (length a) false_lit in
    let nothing = number-false v (length a) one in
    ap (nat_eq (number v a)) (sym nothing) ∙ equal_value (is_signed t) v a z (some_of t a e) (sym long) ∙ ap (int_eq (value (is_signed t) v a)) (zero_value t v z (long ∙ e) nothing)

-- ---- rows

pub row-constant : (t : Elementary) (x : ℤ) (v : ℕ → Bool) → in_range x (range_of t) ≡ true → v 1 ≡ true → value (is_signed t) v (constant_of (width_of t) x) ≡ x
row-constant t x v h one = value-constant (is_signed t) v (width_of t) x (some_bits t) one ∙ wrapped_same t x h

-- what is wrapped to a word's length is wrapped to its type
at_type : (t : Elementary) (k : ℕ) (x y : ℤ) → k ≡ width_of t → x ≡ wrap k (is_signed t) y → x ≡ wrap_to t y
at_type t k x y e h = h ∙ ap (λ (w : ℕ). wrap w (is_signed t) y) e

pub row-unary : (o : UnaryOperator) (t : Elementary) (v : ℕ → Bool) (a : List Lit) (n : Netlist) → length a ≡ width_of t → IsModel v (unary_of o a n).net → value (is_signed t) v (unary_of o a n).word ≡ unary_applied o t (value (is_signed t) v a)
row-unary signs.Minus t v a n e m = at_type t (length a) _ (neg_ℤ (value (is_signed t) v a)) e (value-neg (is_signed t) v a n (some_of t a e) m)
row-unary signs.Not t v a n e m = at_type t (length a) _ (neg_ℤ (value (is_signed t) v a) -ℤ pos 1) e (value-not (is_signed t) v a (some_of t a e))

-- operators on bits, of a type without a sign
row-bits : (k : BitOperator) (w : ℕ) (s : Bool) (v : ℕ → Bool) (a b : List Lit) (n : Netlist) → not s ≡ true → 0 < w → length a ≡ w → length b ≡ w → IsModel v (bitwise_of k a b n).net
    → value s v (bitwise_of k a b n).word ≡ wrap w s (pos (combined k (unsigned_abs (value s v a)) (unsigned_abs (value s v b))))
row-bits k w true v a b n u some e f m = absurd (false≢true u)
row-bits k w false v a b n u some e f m =
    let r = (bitwise_of k a b n).word in
    let small : number v r < 2 ^ w = subst (λ (j : ℕ). number v r < 2 ^ j) (length-bitwise k a b n (e ∙ sym f) ∙ e) (number-lt v r) in
    sym (number_kept w (number v r) some small) ∙ ap (λ (j : ℕ). wrap w false (pos j)) (number-bitwise k v a b n (e ∙ sym f) m)

row-comparison : (k : Comparison) (t : Elementary) (v : ℕ → Bool) (a b : List Lit) (n : Netlist) → length a ≡ width_of t → length b ≡ width_of t → IsModel v (comparison_of k (is_signed t) a b n).net
    → value false v ((comparison_of k (is_signed t) a b n).lit ∷ []) ≡ wrap_to types.Bool (number_of (compared k (value (is_signed t) v a) (value (is_signed t) v b)))
row-comparison k t v a b n e f m = one_wrapped v _ _ (value-compare k (is_signed t) v a b n (some_of t a e) (e ∙ sym f) m)

pub row-binary : (o : Operator) (t : Elementary) (v : ℕ → Bool) (a b : List Lit) (n : Netlist) → is_for o t ≡ true → length a ≡ width_of t → length b ≡ width_of t → IsModel v (binary_of o (is_signed t) a b n).net
    → value (is_signed (result_type o t)) v (binary_of o (is_signed t) a b n).word ≡ applied o t (value (is_signed t) v a) (value (is_signed t) v b)
row-binary ops.Or t v a b n u e f m = row-bits bits.Or (width_of t) (is_signed t) v a b n u (some_bits t) e f m
row-binary ops.Xor t v a b n u e f m = row-bits bits.Xor (width_of t) (is_signed t) v a b n u (some_bits t) e f m
row-binary ops.And t v a b n u e f m = row-bits bits.And (width_of t) (is_signed t) v a b n u (some_bits t) e f m
row-binary ops.Equal t v a b n u e f m = row-comparison comparisons.Equal t v a b n e f m
row-binary ops.NotEqual t v a b n u e f m = row-comparison comparisons.NotEqual t v a b n e f m
row-binary ops.Less t v a b n u e f m = row-comparison comparisons.Less t v a b n e f m
row-binary ops.Greater t v a b n u e f m = row-comparison comparisons.Greater t v a b n e f m
row-binary ops.LessEqual t v a b n u e f m = row-comparison comparisons.LessOrEqual t v a b n e f m
row-binary ops.GreaterEqual t v a b n u e f m = row-comparison comparisons.GreaterOrEqual t v a b n e f m
row-binary ops.Plus t v a b n u e f m = at_type t (length a) _ (value (is_signed t) v a +ℤ value (is_signed t) v b) e (value-add (is_signed t) v a b n (some_of t a e) (e ∙ sym f) m)
row-binary ops.Minus t v a b n u e f m = at_type t (length a) _ (value (is_signed t) v a -ℤ value (is_signed t) v b) e (value-sub (is_signed t) v a b n (some_of t a e) (e ∙ sym f) m)
row-binary ops.Times t v a b n u e f m = at_type t (length a) _ (value (is_signed t) v a *ℤ value (is_signed t) v b) e (value-mul (is_signed t) v a b n (some_of t a e) (e ∙ sym f) m)
row-binary ops.Divide t v a b n u e f m =
    at_type t (length a) _ (divided parts.Quotient (value (is_signed t) v a) (value (is_signed t) v b)) e (value-division parts.Quotient (is_signed t) v a b n (some_of t a e) (e ∙ sym f) m) ∙ ap (wrap_to t) (same_or_zero (quot (value (is_signed t) v a) (value (is_signed t) v b)))
row-binary ops.Mod t v a b n u e f m =
    at_type t (length a) _ (divided parts.Remainder (value (is_signed t) v a) (value (is_signed t) v b)) e (value-division parts.Remainder (is_signed t) v a b n (some_of t a e) (e ∙ sym f) m) ∙ ap (wrap_to t) (same_or_zero (rem (value (is_signed t) v a) (value (is_signed t) v b)))

-- a conversion to a type other than BOOL
row-resized : (from to : Elementary) (v : ℕ → Bool) (a : List Lit) → length a ≡ width_of from → v 1 ≡ true → value (is_signed to) v (resized (is_signed from) (width_of to) a) ≡ wrap_to to (value (is_signed from) v a)
row-resized from to v a e one = value-resize (is_signed from) (is_signed to) v a (width_of to) (some_bits to) (some_of from a e) one

pub row-conversion : (from to : Elementary) (v : ℕ → Bool) (a : List Lit) (n : Netlist) → length a ≡ width_of from → IsModel v (conversion_of from to a n).net
    → value (is_signed to) v (conversion_of from to a n).word ≡ wrap_to to (converted to (value (is_signed from) v a))
row-conversion from to v a n e m = by (bool_or_resizing to)
  where
    to_bool : IsModel v (conversion_of from types.Bool a n).net → value false v (conversion_of from types.Bool a n).word ≡ wrap_to types.Bool (converted types.Bool (value (is_signed from) v a))
    to_bool m = one_wrapped v _ _ ((Compares-any v a n m).value ∙ ap not (zero_test from v a e m.one))

    by : (to ≡ types.Bool) ⊎ IsResizing to → value (is_signed to) v (conversion_of from to a n).word ≡ wrap_to to (converted to (value (is_signed from) v a))
    by (inl is) =
        subst (λ (t : Elementary). IsModel v (conversion_of from t a n).net → value (is_signed t) v (conversion_of from t a n).word ≡ wrap_to t (converted t (value (is_signed from) v a))) (sym is) to_bool m
    by (inr is) = rw (is.word from a n, is.value (value (is_signed from) v a)) (row-resized from to v a e m.one)

pub row-absolute : (t : Elementary) (v : ℕ → Bool) (a : List Lit) (n : Netlist) → length a ≡ width_of t → IsModel v (abs_of (is_signed t) a n).net
    → value (is_signed t) v (abs_of (is_signed t) a n).word ≡ wrap_to t (pos (unsigned_abs (value (is_signed t) v a)))
row-absolute t v a n e m = at_type t (length a) _ (pos (unsigned_abs (value (is_signed t) v a))) e (value-abs (is_signed t) v a n (some_of t a e) m)

pub row-minimum : (t : Elementary) (v : ℕ → Bool) (a b : List Lit) (n : Netlist) → length a ≡ width_of t → length b ≡ width_of t → IsModel v (min_of (is_signed t) a b n).net
    → value (is_signed t) v (min_of (is_signed t) a b n).word ≡ lesser (value (is_signed t) v a) (value (is_signed t) v b)
row-minimum t v a b n e f m = value-min (is_signed t) v a b n (some_of t a e) (e ∙ sym f) m

pub row-maximum : (t : Elementary) (v : ℕ → Bool) (a b : List Lit) (n : Netlist) → length a ≡ width_of t → length b ≡ width_of t → IsModel v (max_of (is_signed t) a b n).net
    → value (is_signed t) v (max_of (is_signed t) a b n).word ≡ greater (value (is_signed t) v a) (value (is_signed t) v b)
row-maximum t v a b n e f m = value-max (is_signed t) v a b n (some_of t a e) (e ∙ sym f) m

-- ---- shifts, of numbers x of so many bits

some_at : (w : ℕ) (a : List Lit) → length a ≡ w → 0 < w → 0 < length a
some_at w a e some = omega arith

left_within : (w k x : ℕ) (t : Bool) → nat_lt k w ≡ t → x * 2 ^ k % 2 ^ w ≡ (if t then x * 2 ^ k else 0) % 2 ^ w
left_within w k x true h = refl
left_within w k x false h = ap (λ (p : ℕ). x * p % 2 ^ w) (ap (λ (j : ℕ). 2 ^ j) k_is ∙ pow-add 2 w (k - w)) ∙ ap (λ (y : ℕ). y % 2 ^ w) (regrouped x (2 ^ w) (2 ^ (k - w))) ∙ mul-mod_right (2 ^ w) (x * 2 ^ (k - w)) ∙ sym (nothing (2 ^ w))
  where
    k_is : k ≡ w + (k - w)
    k_is = grind (arith, nat_tests)

    regrouped : (x p q : ℕ) → x * (p * q) ≡ p * (x * q)
    regrouped x p q = omega arith

    nothing : (p : ℕ) → 0 % p ≡ 0
    nothing p = omega arith

right_within : (w k x : ℕ) (t : Bool) → nat_lt k w ≡ t → x < 2 ^ w → x / 2 ^ k ≡ (if t then x / 2 ^ k else 0)
right_within w k x true h small = refl
right_within w k x false h small =
    let past : w ≤ k = grind (arith, nat_tests) in
    let power : 2 ^ w ≤ 2 ^ k = pow-le-pow_right {n = 2} (omega arith) past in
    let below : x < 2 ^ k = omega arith in
    div-eq_of_lt below

row-shift-number : (s : Shift) (k w : ℕ) (sign : Bool) (v : ℕ → Bool) (a : List Lit) → sign ≡ false → 0 < w → length a ≡ w → v 1 ≡ true
    → value sign v (shift_of s k a) ≡ wrap w sign (pos (shifted s w k (unsigned_abs (value sign v a))))
row-shift-number s k w true v a u some e one = absurd (false≢true (sym u))
row-shift-number shifts.Left k w false v a u some e one =
    let x = number v a in
    ap pos (number-shl v a k one ∙ ap (λ (j : ℕ). x * 2 ^ k % 2 ^ j) e ∙ left_within w k x (nat_lt k w) refl) ∙ sym (number_wrapped w (if nat_lt k w then x * 2 ^ k else 0) some)
row-shift-number shifts.Right k w false v a u some e one =
    let x = number v a in
    let small : x < 2 ^ w = subst (λ (j : ℕ). x < 2 ^ j) e (number-lt v a) in
    let is = right_within w k x (nat_lt k w) refl small in
    let below : x / 2 ^ k < 2 ^ w = omega (arith, div-le_self x (2 ^ k)) in
    ap pos (number-shr v a k one ∙ is) ∙ sym (number_kept w (if nat_lt k w then x / 2 ^ k else 0) some (subst (λ (y : ℕ). y < 2 ^ w) is below))
row-shift-number shifts.RotateLeft k w false v a u some e one =
    let x = number v a in
    ap pos (number-rol v a k (some_at w a e some) ∙ ap (λ (j : ℕ). turns.rotated j (k % j) x % 2 ^ j) e) ∙ sym (number_wrapped w (turns.rotated w (k % w) x) some)
row-shift-number shifts.RotateRight k w false v a u some e one =
    let x = number v a in
    ap pos (number-ror v a k (some_at w a e some) ∙ ap (λ (j : ℕ). turns.rotated j (j - k % j) x % 2 ^ j) e) ∙ sym (number_wrapped w (turns.rotated w (w - k % w) x) some)

pub row-shift : (s : Shift) (k : ℕ) (t : Elementary) (v : ℕ → Bool) (a : List Lit) → is_signed t ≡ false → length a ≡ width_of t → v 1 ≡ true
    → value (is_signed t) v (shift_of s k a) ≡ wrap_to t (pos (shifted s (width_of t) k (unsigned_abs (value (is_signed t) v a))))
row-shift s k t v a u e one = row-shift-number s k (width_of t) (is_signed t) v a u (some_bits t) e one

-- ---- tests and choices

pub row-zero : (t : Elementary) (v : ℕ → Bool) (a : List Lit) (n : Netlist) → length a ≡ width_of t → IsModel v (is_zero_of a n).net
    → value false v ((is_zero_of a n).lit ∷ []) ≡ number_of (is_zero (value (is_signed t) v a))
row-zero t v a n e m = one_plain v _ _ ((Compares-zero v a n m).value ∙ zero_test t v a e m.one)

pub row-outside : (t : Elementary) (r : Range) (v : ℕ → Bool) (a : List Lit) (n : Netlist) → in_range r.low (range_of t) ≡ true → in_range r.high (range_of t) ≡ true → length a ≡ width_of t
    → IsModel v (outside_of (is_signed t) a r.low r.high n).net
    → value false v ((outside_of (is_signed t) a r.low r.high n).lit ∷ []) ≡ number_of (not (in_range (value (is_signed t) v a) r))
row-outside t r v a n low high e m =
    let x = value (is_signed t) v a in
    let least : wrap (length a) (is_signed t) r.low ≡ r.low = ap (λ (w : ℕ). wrap w (is_signed t) r.low) e ∙ wrapped_same t r.low low in
    let greatest : wrap (length a) (is_signed t) r.high ≡ r.high = ap (λ (w : ℕ). wrap w (is_signed t) r.high) e ∙ wrapped_same t r.high high in
    one_plain v _ _ (value-outside (is_signed t) v a r.low r.high n (some_of t a e) m
    ∙ ap (λ (y : ℤ). int_lt x y || int_lt (wrap (length a) (is_signed t) r.high) x) least ∙ ap (λ (y : ℤ). int_lt x r.low || int_lt y x) greatest ∙ not_between x r.low r.high)

bit_truth : (b : Bool) → b ≡ is_truth (pos (bit b + 2 * 0))
bit_truth true = refl
bit_truth false = refl

-- the literal of a word of one bit
top_truth : (v : ℕ → Bool) (c : List Lit) → length c ≡ 1 → literal_true v (top_of c) ≡ is_truth (value false v c)
top_truth v [] e = absurd (omega arith)
top_truth v (l ∷ []) e = bit_truth (literal_true v l)
top_truth v (l ∷ k ∷ ls) e = absurd (omega arith)

pub row-choice : (t : Elementary) (v : ℕ → Bool) (c a b : List Lit) (n : Netlist) → length c ≡ 1 → length a ≡ width_of t → length b ≡ width_of t → IsModel v (choose_of (top_of c) a b n).net
    → value (is_signed t) v (choose_of (top_of c) a b n).word ≡ (if is_truth (value false v c) then value (is_signed t) v a else value (is_signed t) v b)
row-choice t v c a b n one e f m =
    value-choose (is_signed t) v (top_of c) a b n (some_of t a e) (e ∙ sym f) m ∙ ap (λ (p : Bool). if p then value (is_signed t) v a else value (is_signed t) v b) (top_truth v c one)
