-- The steps of an operation: what a step makes is a front of what the operation makes.
use Rattle.std.proofs.Common.{◌≡◌, ℕ, Bool, true, false, List, [], ◌∷◌, ◌++◌, length, take, replicate, ℤ}
use Rattle.clause_core.specs.declared.literal.Lit.{Lit}
use Rattle.clause_core.specs.Values.{negation}
use Rattle.gates.specs.Literals.{false_lit}
use Rattle.gates.specs.Netlists.{Netlist, IsExtensionOf}
use Rattle.gates.specs.Rules.{xor_of}
use Rattle.gates.proofs.Growth.{extends_then, extends_and, extends_or}
use Rattle.word_circuits.specs.declared.bits.BitOperator.TheVariants.{And}
use Rattle.word_circuits.specs.declared.divide.Part.{Part}
use Rattle.word_circuits.specs.declared.divide.Part.TheVariants.{Quotient}
use Rattle.word_circuits.specs.Words.{top_of, constant_of}
use Rattle.word_circuits.specs.Sums.{sub_of, neg_of}
use Rattle.word_circuits.specs.Comparisons.{same_step_of, is_zero_of, lt_of, outside_of}
use Rattle.word_circuits.specs.Choices.{abs_of, negated_where, min_of, max_of}
use Rattle.word_circuits.specs.Products.{row_of, mul_from}
use Rattle.word_circuits.specs.Divisions.{divide_step_of, divide_of, part_of, signed_part_of, ratio_of, masked_of, division_of}
use Rattle.word_circuits.proofs.Growth.{extends_add, extends_lt, extends_choose, extends_bitwise, extends_abs, extends_negated_where, extends_part, extends_signed_part, extends_masked}

pub after_same : (r a b : Lit) (n : Netlist) → IsExtensionOf (xor_of a b n).net (same_step_of r a b n).net
unfolding same_step_of
after_same r a b n = extends_and r (negation (xor_of a b n).lit) (xor_of a b n).net

pub after_below : (s : Bool) (a : List Lit) (low high : ℤ) (n : Netlist) (least : List Lit) → least ≡ constant_of (length a) low → IsExtensionOf (lt_of s a least n).net (outside_of s a low high n).net
unfolding outside_of
after_below s a low high n least e =
    let below = lt_of s a (constant_of (length a) low) n in
    let above = lt_of s (constant_of (length a) high) a below.net in
    rw e (extends_then below.net above.net _ (extends_lt s (constant_of (length a) high) a below.net) (extends_or below.lit above.lit above.net))

pub after_above : (s : Bool) (a : List Lit) (low high : ℤ) (n m : Netlist) (least greatest : List Lit) → least ≡ constant_of (length a) low → greatest ≡ constant_of (length a) high → m ≡ (lt_of s a least n).net → IsExtensionOf (lt_of s greatest a m).net (outside_of s a low high n).net
unfolding outside_of
after_above s a low high n m least greatest e f g =
    let below = lt_of s a (constant_of (length a) low) n in
    let above = lt_of s (constant_of (length a) high) a below.net in
    rw (g, e, f) (extends_or below.lit above.lit above.net)

pub after_less_min : (s : Bool) (a b : List Lit) (n : Netlist) → IsExtensionOf (lt_of s b a n).net (min_of s a b n).net
after_less_min s a b n = let less = lt_of s b a n in extends_choose less.lit b a less.net

pub after_less_max : (s : Bool) (a b : List Lit) (n : Netlist) → IsExtensionOf (lt_of s a b n).net (max_of s a b n).net
after_less_max s a b n = let less = lt_of s a b n in extends_choose less.lit b a less.net

pub after_neg : (c : Lit) (a : List Lit) (n : Netlist) → IsExtensionOf (neg_of a n).net (negated_where c a n).net
after_neg c a n = let g = neg_of a n in extends_choose c g.word a g.net

pub after_row : (a : List Lit) (i : ℕ) (b : Lit) (sum : List Lit) (n : Netlist) → IsExtensionOf (row_of a i b n).net (mul_from a i (b ∷ []) sum n).net
after_row a i b sum n = let row = row_of a i b n in extends_add sum row.word false_lit row.net

pub after_difference : (x : Lit) (rest b wide divisor : List Lit) (n : Netlist) → wide ≡ x ∷ rest → divisor ≡ b ++ false_lit ∷ [] → IsExtensionOf (sub_of wide divisor n).net (divide_step_of x rest b n).net
unfolding divide_step_of
after_difference x rest b wide divisor n e f =
    let d = sub_of (x ∷ rest) (b ++ false_lit ∷ []) n in
    rw (e, f) (extends_choose d.carry (take (length b) d.word) (take (length b) (x ∷ rest)) d.net)

pub after_sign : (a b : Lit) (w : List Lit) (n : Netlist) → IsExtensionOf (xor_of a b n).net (signed_part_of Quotient a b (record { word = w; net = n })).net
unfolding signed_part_of
after_sign a b w n = let s = xor_of a b n in extends_negated_where s.lit w s.net

pub after_part : (p : Part) (a b x y : List Lit) (n k m : Netlist) → x ≡ (abs_of true a n).word → k ≡ (abs_of true a n).net → y ≡ (abs_of true b k).word → m ≡ (abs_of true b k).net → IsExtensionOf (part_of p (divide_of x y m)).net (ratio_of p true a b n).net
unfolding ratio_of
after_part p a b x y n k m e f g h =
    let dividend = abs_of true a n in
    let divisor = abs_of true b dividend.net in
    rw (h, g, e, f) (extends_signed_part p (top_of a) (top_of b) (part_of p (divide_of dividend.word divisor.word divisor.net)))

pub after_divisor : (p : Part) (a b : List Lit) (n k : Netlist) → k ≡ (abs_of true a n).net → IsExtensionOf (abs_of true b k).net (ratio_of p true a b n).net
unfolding ratio_of
after_divisor p a b n k f =
    let dividend = abs_of true a n in
    let divisor = abs_of true b dividend.net in
    let part = part_of p (divide_of dividend.word divisor.word divisor.net) in
    rw f (extends_then divisor.net part.net _ (extends_part p dividend.word divisor.word divisor.net) (extends_signed_part p (top_of a) (top_of b) part))

pub after_dividend : (p : Part) (a b : List Lit) (n : Netlist) → IsExtensionOf (abs_of true a n).net (ratio_of p true a b n).net
unfolding ratio_of
after_dividend p a b n =
    let dividend = abs_of true a n in
    let divisor = abs_of true b dividend.net in
    let part = part_of p (divide_of dividend.word divisor.word divisor.net) in
    extends_then dividend.net divisor.net _ (extends_abs true b dividend.net) (extends_then divisor.net part.net _ (extends_part p dividend.word divisor.word divisor.net) (extends_signed_part p (top_of a) (top_of b) part))

pub after_zero : (b w : List Lit) (n : Netlist) → IsExtensionOf (is_zero_of b n).net (masked_of b (record { word = w; net = n })).net
unfolding masked_of
after_zero b w n = let z = is_zero_of b n in extends_bitwise And (replicate (length w) (negation z.lit)) w z.net

pub after_ratio : (p : Part) (s : Bool) (a b : List Lit) (n : Netlist) → IsExtensionOf (ratio_of p s a b n).net (division_of p s a b n).net
unfolding division_of
after_ratio p s a b n = extends_masked b (ratio_of p s a b n)
