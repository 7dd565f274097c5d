-- Comparisons, and what chooses by them: MIN, MAX and ABS.
use Rattle.std.proofs.Common.{Bool, true, false, List, [], ◌∷◌, length, ℤ}
use Rattle.clause_core.specs.declared.literal.Lit.{Lit}
use Rattle.clause_core.specs.Values.{negation}
use Rattle.gates.specs.Literals.{true_lit}
use Rattle.gates.specs.Netlists.{Netlist, Made}
use Rattle.gates.specs.Order.{IsOrdered, IsLiteralOf}
use Rattle.gates.specs.Rules.{and_of, or_of, xor_of}
use Rattle.gates.proofs.Growth.{extends_then}
use Rattle.word_circuits.specs.declared.comparisons.Comparison.{Comparison}
use Rattle.word_circuits.specs.declared.comparisons.Comparison.TheVariants.{Equal, NotEqual, Less, Greater, LessOrEqual, GreaterOrEqual}
use Rattle.word_circuits.specs.Words.{zeros, constant_of, top_of}
use Rattle.word_circuits.specs.Sums.{sub_of, neg_of}
use Rattle.word_circuits.specs.Comparisons.{same_step_of, eq_from, eq_of, is_zero_of, biased, lt_of, comparison_of, outside_of}
use Rattle.word_circuits.specs.Choices.{choose_of, min_of, max_of, negated_where, abs_of}
use Rattle.word_orders.specs.Orders.{IsWordOf, MakesLiteral, MakesWord}
use Rattle.word_orders.proofs.Literals.{IsLiteralOf-later, IsLiteralOf-negation, IsLiteralOf-true, IsLiteralOf-head, IsLiteralOf-top, IsWordOf-later, IsWordOf-tail, IsWordOf-zeros, IsWordOf-constant, IsWordOf-biased}
use Rattle.word_orders.proofs.Rules.{makes_and, makes_or, makes_xor, makes_ready, makes_ready_word, makes_negative, MakesLiteral-then, MakesWord-then}
use Rattle.word_orders.proofs.Choices.{makes_choose}
use Rattle.word_orders.proofs.Sums.{makes_sub, makes_neg}

makes_same_step : (r a b : Lit) (n : Netlist) → IsOrdered n → IsLiteralOf n r → IsLiteralOf n a → IsLiteralOf n b → MakesLiteral n (same_step_of r a b n)
unfolding same_step_of
makes_same_step r a b n h hr ha hb =
    let x = xor_of a b n in
    let hx = makes_xor a b n h ha hb in
    MakesLiteral-then n x.net (and_of r (negation x.lit) x.net) hx.extends
    (makes_and r (negation x.lit) x.net hx.ordered (IsLiteralOf-later n x.net r hx.extends hr) (IsLiteralOf-negation x.net x.lit hx.literal))

makes_eq_from : (r : Lit) (a b : List Lit) (n : Netlist) → IsOrdered n → IsLiteralOf n r → IsWordOf n a → IsWordOf n b → MakesLiteral n (eq_from r a b n)
makes_eq_from r [] b n h hr ha hb = makes_ready r n h hr
makes_eq_from r (a ∷ as') [] n h hr ha hb = makes_ready r n h hr
makes_eq_from r (a ∷ as') (b ∷ bs) n h hr ha hb =
    let k = same_step_of r a b n in
    let hk = makes_same_step r a b n h hr (IsLiteralOf-head n a as' ha) (IsLiteralOf-head n b bs hb) in
    MakesLiteral-then n k.net (eq_from k.lit as' bs k.net) hk.extends
    (makes_eq_from k.lit as' bs k.net hk.ordered hk.literal (IsWordOf-later n k.net as' hk.extends (IsWordOf-tail n a as' ha)) (IsWordOf-later n k.net bs hk.extends (IsWordOf-tail n b bs hb)))

pub makes_equal : (a b : List Lit) (n : Netlist) → IsOrdered n → IsWordOf n a → IsWordOf n b → MakesLiteral n (eq_of a b n)
makes_equal a b n h ha hb = makes_eq_from true_lit a b n h (IsLiteralOf-true n h) ha hb

pub makes_is_zero : (a : List Lit) (n : Netlist) → IsOrdered n → IsWordOf n a → MakesLiteral n (is_zero_of a n)
makes_is_zero a n h ha = makes_equal a (zeros (length a)) n h ha (IsWordOf-zeros n (length a) h)

pub makes_less : (s : Bool) (a b : List Lit) (n : Netlist) → IsOrdered n → IsWordOf n a → IsWordOf n b → MakesLiteral n (lt_of s a b n)
makes_less s a b n h ha hb =
    let d = sub_of (biased s a) (biased s b) n in
    let hd = makes_sub (biased s a) (biased s b) n h (IsWordOf-biased n s a ha) (IsWordOf-biased n s b hb) in
    record { extends = hd.extends; ordered = hd.ordered; literal = IsLiteralOf-negation d.net d.carry hd.carry }

pub makes_comparison : (k : Comparison) (s : Bool) (a b : List Lit) (n : Netlist) → IsOrdered n → IsWordOf n a → IsWordOf n b → MakesLiteral n (comparison_of k s a b n)
makes_comparison Equal s a b n h ha hb = makes_equal a b n h ha hb
makes_comparison NotEqual s a b n h ha hb = makes_negative n (eq_of a b n) (makes_equal a b n h ha hb)
makes_comparison Less s a b n h ha hb = makes_less s a b n h ha hb
makes_comparison Greater s a b n h ha hb = makes_less s b a n h hb ha
makes_comparison LessOrEqual s a b n h ha hb = makes_negative n (lt_of s b a n) (makes_less s b a n h hb ha)
makes_comparison GreaterOrEqual s a b n h ha hb = makes_negative n (lt_of s a b n) (makes_less s a b n h ha hb)

pub makes_outside : (s : Bool) (a : List Lit) (low high : ℤ) (n : Netlist) → IsOrdered n → IsWordOf n a → MakesLiteral n (outside_of s a low high n)
unfolding outside_of
makes_outside s a low high n h ha =
    let least = constant_of (length a) low in
    let greatest = constant_of (length a) high in
    let below = lt_of s a least n in
    let above = lt_of s greatest a below.net in
    let hb = makes_less s a least n h ha (IsWordOf-constant n (length a) low h) in
    let hc = makes_less s greatest a below.net hb.ordered (IsWordOf-constant below.net (length a) high hb.ordered) (IsWordOf-later n below.net a hb.extends ha) in
    MakesLiteral-then n above.net (or_of below.lit above.lit above.net) (extends_then n below.net above.net hb.extends hc.extends)
    (makes_or below.lit above.lit above.net hc.ordered (IsLiteralOf-later below.net above.net below.lit hc.extends hb.literal) hc.literal)

-- the second word where a literal that was made is true, else the first
makes_second : (n : Netlist) (a b : List Lit) (less : Made) → MakesLiteral n less → IsWordOf n a → IsWordOf n b → MakesWord n (choose_of less.lit b a less.net)
makes_second n a b less hl ha hb =
    MakesWord-then n less.net (choose_of less.lit b a less.net) hl.extends
    (makes_choose less.lit b a less.net hl.ordered hl.literal (IsWordOf-later n less.net b hl.extends hb) (IsWordOf-later n less.net a hl.extends ha))

pub makes_min : (s : Bool) (a b : List Lit) (n : Netlist) → IsOrdered n → IsWordOf n a → IsWordOf n b → MakesWord n (min_of s a b n)
makes_min s a b n h ha hb = makes_second n a b (lt_of s b a n) (makes_less s b a n h hb ha) ha hb

pub makes_max : (s : Bool) (a b : List Lit) (n : Netlist) → IsOrdered n → IsWordOf n a → IsWordOf n b → MakesWord n (max_of s a b n)
makes_max s a b n h ha hb = makes_second n a b (lt_of s a b n) (makes_less s a b n h ha hb) ha hb

pub makes_negated_where : (c : Lit) (a : List Lit) (n : Netlist) → IsOrdered n → IsLiteralOf n c → IsWordOf n a → MakesWord n (negated_where c a n)
makes_negated_where c a n h hc ha =
    let g = neg_of a n in
    let hg = makes_neg a n h ha in
    MakesWord-then n g.net (choose_of c g.word a g.net) hg.extends
    (makes_choose c g.word a g.net hg.ordered (IsLiteralOf-later n g.net c hg.extends hc) hg.word (IsWordOf-later n g.net a hg.extends ha))

pub makes_abs : (s : Bool) (a : List Lit) (n : Netlist) → IsOrdered n → IsWordOf n a → MakesWord n (abs_of s a n)
makes_abs true a n h ha = makes_negated_where (top_of a) a n h (IsLiteralOf-top n a h ha) ha
makes_abs false a n h ha = makes_ready_word a n h ha
