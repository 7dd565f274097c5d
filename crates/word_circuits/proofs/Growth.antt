-- Each operation on words only adds gates, and a fault of one of its steps is one of the whole.
use Rattle.std.proofs.Common.{◌≡◌, ℕ, ◌+◌, ◌-◌, Bool, true, false, refl, sym, ◌∙◌, ap, subst, List, [], ◌∷◌, ◌++◌, length, take, replicate, reverse, Result, ℤ}
use Rattle.std.specs.Prelude.{IfErr, Err}
use Rattle.clause_core.specs.declared.literal.Lit.{Lit}
use Rattle.clause_core.specs.Values.{negation}
use Rattle.gates.specs.declared.circuit.GateFault.{GateFault}
use Rattle.gates.specs.declared.circuit.GateFault.TheVariants.{TooMany}
use Rattle.gates.specs.Literals.{true_lit, false_lit}
use Rattle.gates.specs.Netlists.{Netlist, Made, IsExtensionOf, IsOverfull}
use Rattle.gates.specs.Rules.{and_of, or_of, xor_of, mux_of}
use Rattle.gates.proofs.Growth.{extends_self, extends_then, overfull_then, extends_and, extends_or, extends_xor, extends_mux}
use Rattle.word_circuits.specs.declared.bits.BitOperator.{BitOperator}
use Rattle.word_circuits.specs.declared.bits.BitOperator.TheVariants.{And, Or, Xor}
use Rattle.word_circuits.specs.declared.comparisons.Comparison.{Comparison}
use Rattle.word_circuits.specs.declared.comparisons.Comparison.TheVariants.{Equal, NotEqual, Less, Greater, LessOrEqual, GreaterOrEqual}
use Rattle.word_circuits.specs.declared.divide.Part.{Part}
use Rattle.word_circuits.specs.declared.divide.Part.TheVariants.{Quotient, Remainder}
use Rattle.word_circuits.specs.Words.{MadeWord, zeros, not_word, top_of, constant_of, bit_of, bitwise_of}
use Rattle.word_circuits.specs.Sums.{full_adder_of, add_of, sub_of, neg_of}
use Rattle.word_circuits.specs.Comparisons.{same_step_of, eq_from, eq_of, is_zero_of, biased, lt_of, comparison_of, outside_of}
use Rattle.word_circuits.specs.Choices.{choose_of, min_of, max_of, negated_where, abs_of}
use Rattle.word_circuits.specs.Products.{row_of, mul_from, mul_of}
use Rattle.word_circuits.specs.Divisions.{divide_step_of, divide_from, divide_of, part_of, signed_part_of, ratio_of, masked_of, division_of}
use Rattle.word_circuits.specs.Conversions.{any_from}

-- a fault that a step hands on
pub handed_on : {T : Type 0} (result : Result T GateFault) (given fault : GateFault) (m n : Netlist) → result ≡ Err given → given ≡ fault → (fault ≡ TooMany → IsOverfull m) → IsExtensionOf m n → IfErr result (λ f. f ≡ TooMany → IsOverfull n)
handed_on result given fault m n e f over grows = rw (e, f) (λ many. overfull_then m n grows (over many))

pub extends_full_adder : (a b c : Lit) (n : Netlist) → IsExtensionOf n (full_adder_of a b c n).net
unfolding full_adder_of
extends_full_adder a b c n = extends_then n _ _ (extends_xor a b n) (extends_then _ _ _ (extends_xor _ c _) (extends_mux _ c a _))

pub extends_add : (a b : List Lit) (c : Lit) (n : Netlist) → IsExtensionOf n (add_of a b c n).net
extends_add [] b c n = extends_self n
extends_add (a ∷ as') [] c n = extends_self n
extends_add (a ∷ as') (b ∷ bs) c n = extends_then n _ _ (extends_full_adder a b c n) (extends_add as' bs _ _)

pub extends_sub : (a b : List Lit) (n : Netlist) → IsExtensionOf n (sub_of a b n).net
extends_sub a b n = extends_add a (not_word b) true_lit n

pub extends_neg : (a : List Lit) (n : Netlist) → IsExtensionOf n (neg_of a n).net
extends_neg a n = extends_sub (zeros (length a)) a n

pub extends_bit : (o : BitOperator) (a b : Lit) (n : Netlist) → IsExtensionOf n (bit_of o a b n).net
extends_bit And a b n = extends_and a b n
extends_bit Or a b n = extends_or a b n
extends_bit Xor a b n = extends_xor a b n

pub extends_bitwise : (o : BitOperator) (a b : List Lit) (n : Netlist) → IsExtensionOf n (bitwise_of o a b n).net
extends_bitwise o [] b n = extends_self n
extends_bitwise o (a ∷ as') [] n = extends_self n
extends_bitwise o (a ∷ as') (b ∷ bs) n = extends_then n _ _ (extends_bit o a b n) (extends_bitwise o as' bs _)

pub extends_same_step : (r a b : Lit) (n : Netlist) → IsExtensionOf n (same_step_of r a b n).net
unfolding same_step_of
extends_same_step r a b n = extends_then n _ _ (extends_xor a b n) (extends_and r _ _)

pub extends_eq_from : (r : Lit) (a b : List Lit) (n : Netlist) → IsExtensionOf n (eq_from r a b n).net
extends_eq_from r [] b n = extends_self n
extends_eq_from r (a ∷ as') [] n = extends_self n
extends_eq_from r (a ∷ as') (b ∷ bs) n = extends_then n _ _ (extends_same_step r a b n) (extends_eq_from (same_step_of r a b n).lit as' bs (same_step_of r a b n).net)

pub extends_lt : (s : Bool) (a b : List Lit) (n : Netlist) → IsExtensionOf n (lt_of s a b n).net
extends_lt s a b n = extends_sub (biased s a) (biased s b) n

pub extends_comparison : (k : Comparison) (s : Bool) (a b : List Lit) (n : Netlist) → IsExtensionOf n (comparison_of k s a b n).net
extends_comparison Equal s a b n = extends_eq_from true_lit a b n
extends_comparison NotEqual s a b n = extends_eq_from true_lit a b n
extends_comparison Less s a b n = extends_lt s a b n
extends_comparison Greater s a b n = extends_lt s b a n
extends_comparison LessOrEqual s a b n = extends_lt s b a n
extends_comparison GreaterOrEqual s a b n = extends_lt s a b n

pub extends_outside : (s : Bool) (a : List Lit) (low high : ℤ) (n : Netlist) → IsExtensionOf n (outside_of s a low high n).net
unfolding outside_of
extends_outside s a low high n =
    extends_then n _ _ (extends_lt s a (constant_of (length a) low) n) (extends_then _ _ _ (extends_lt s (constant_of (length a) high) a _) (extends_or _ _ _))

pub extends_choose : (c : Lit) (a b : List Lit) (n : Netlist) → IsExtensionOf n (choose_of c a b n).net
extends_choose c [] b n = extends_self n
extends_choose c (a ∷ as') [] n = extends_self n
extends_choose c (a ∷ as') (b ∷ bs) n = extends_then n _ _ (extends_mux c a b n) (extends_choose c as' bs _)

pub extends_min : (s : Bool) (a b : List Lit) (n : Netlist) → IsExtensionOf n (min_of s a b n).net
extends_min s a b n = extends_then n _ _ (extends_lt s b a n) (extends_choose _ b a _)

pub extends_max : (s : Bool) (a b : List Lit) (n : Netlist) → IsExtensionOf n (max_of s a b n).net
extends_max s a b n = extends_then n _ _ (extends_lt s a b n) (extends_choose _ b a _)

pub extends_negated_where : (c : Lit) (a : List Lit) (n : Netlist) → IsExtensionOf n (negated_where c a n).net
extends_negated_where c a n = extends_then n _ _ (extends_neg a n) (extends_choose c _ a _)

pub extends_abs : (s : Bool) (a : List Lit) (n : Netlist) → IsExtensionOf n (abs_of s a n).net
extends_abs true a n = extends_negated_where (top_of a) a n
extends_abs false a n = extends_self n

pub extends_row : (a : List Lit) (i : ℕ) (b : Lit) (n : Netlist) → IsExtensionOf n (row_of a i b n).net
extends_row a i b n = let low = take (length a - i) a in extends_bitwise And low (replicate (length low) b) n

pub extends_mul_from : (a : List Lit) (i : ℕ) (b sum : List Lit) (n : Netlist) → IsExtensionOf n (mul_from a i b sum n).net
extends_mul_from a i [] sum n = extends_self n
extends_mul_from a i (b ∷ bs) sum n =
    extends_then n _ _ (extends_row a i b n) (extends_then _ _ _ (extends_add sum _ false_lit _) (extends_mul_from a (i + 1) bs _ _))

pub extends_divide_step : (x : Lit) (r b : List Lit) (n : Netlist) → IsExtensionOf n (divide_step_of x r b n).net
unfolding divide_step_of
extends_divide_step x r b n = extends_then n _ _ (extends_sub (x ∷ r) (b ++ false_lit ∷ []) n)
    (let d = sub_of (x ∷ r) (b ++ false_lit ∷ []) n in extends_choose d.carry (take (length b) d.word) (take (length b) (x ∷ r)) d.net)

pub extends_divide_from : (xs b r q : List Lit) (n : Netlist) → IsExtensionOf n (divide_from xs b r q n).net
extends_divide_from [] b r q n = extends_self n
extends_divide_from (x ∷ xs) b r q n = extends_then n _ _ (extends_divide_step x r b n) (extends_divide_from xs b _ _ _)

pub extends_divide : (a b : List Lit) (n : Netlist) → IsExtensionOf n (divide_of a b n).net
extends_divide a b n = extends_divide_from (reverse a) b (zeros (length b)) [] n

pub extends_part : (p : Part) (a b : List Lit) (n : Netlist) → IsExtensionOf n (part_of p (divide_of a b n)).net
extends_part Quotient a b n = extends_divide a b n
extends_part Remainder a b n = extends_divide a b n

pub extends_signed_part : (p : Part) (a b : Lit) (r : MadeWord) → IsExtensionOf r.net (signed_part_of p a b r).net
unfolding signed_part_of
extends_signed_part Quotient a b r = extends_then _ _ _ (extends_xor a b r.net) (extends_negated_where _ r.word _)
extends_signed_part Remainder a b r = extends_negated_where a r.word r.net

pub extends_ratio : (p : Part) (s : Bool) (a b : List Lit) (n : Netlist) → IsExtensionOf n (ratio_of p s a b n).net
unfolding ratio_of
extends_ratio p false a b n = extends_part p a b n
extends_ratio p true a b n =
    let dividend = abs_of true a n in
    let divisor = abs_of true b dividend.net in
    extends_then n _ _ (extends_abs true a n) (extends_then _ _ _ (extends_abs true b dividend.net)
    (extends_then _ _ _ (extends_part p dividend.word divisor.word divisor.net) (extends_signed_part p (top_of a) (top_of b) _)))

pub extends_masked : (b : List Lit) (r : MadeWord) → IsExtensionOf r.net (masked_of b r).net
unfolding masked_of
extends_masked b r = extends_then _ _ _ (extends_eq_from true_lit b (zeros (length b)) r.net)
    (let z = is_zero_of b r.net in extends_bitwise And (replicate (length r.word) (negation z.lit)) r.word z.net)

pub extends_division : (p : Part) (s : Bool) (a b : List Lit) (n : Netlist) → IsExtensionOf n (division_of p s a b n).net
unfolding division_of
extends_division p s a b n = extends_then n _ _ (extends_ratio p s a b n) (extends_masked b _)

pub extends_any_from : (r : Lit) (a : List Lit) (n : Netlist) → IsExtensionOf n (any_from r a n).net
extends_any_from r [] n = extends_self n
extends_any_from r (a ∷ as') n = extends_then n _ _ (extends_or r a n) (extends_any_from (or_of r a n).lit as' (or_of r a n).net)
