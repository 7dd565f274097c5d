-- Division, one bit of the quotient after the other.
use Rattle.std.proofs.Common.{Bool, true, false, List, [], ◌∷◌, ◌++◌, length, take, reverse, replicate}
use Rattle.clause_core.specs.declared.literal.Lit.{Lit}
use Rattle.clause_core.specs.Values.{negation}
use Rattle.gates.specs.Literals.{false_lit}
use Rattle.gates.specs.Netlists.{Netlist, IsExtensionOf}
use Rattle.gates.specs.Order.{IsOrdered, IsLiteralOf}
use Rattle.gates.specs.Rules.{xor_of}
use Rattle.gates.proofs.Growth.{extends_self, extends_then}
use Rattle.word_circuits.specs.declared.bits.BitOperator.TheVariants.{And}
use Rattle.word_circuits.specs.declared.divide.Part.{Part}
use Rattle.word_circuits.specs.declared.divide.Part.TheVariants.{Quotient, Remainder}
use Rattle.word_circuits.specs.Words.{MadeWord, zeros, top_of, bitwise_of}
use Rattle.word_circuits.specs.Sums.{sub_of}
use Rattle.word_circuits.specs.Comparisons.{is_zero_of}
use Rattle.word_circuits.specs.Choices.{choose_of, abs_of, negated_where}
use Rattle.word_circuits.specs.Divisions.{MadeStep, MadeRatio, divide_step_of, divide_from, divide_of, part_of, signed_part_of, ratio_of, masked_of, division_of}
use Rattle.word_orders.specs.Orders.{IsWordOf, MakesWord}
use Rattle.word_orders.proofs.Literals.{IsLiteralOf-later, IsLiteralOf-negation, IsLiteralOf-false, IsLiteralOf-head, IsLiteralOf-top, IsWordOf-later, IsWordOf-nil, IsWordOf-cons, IsWordOf-tail, IsWordOf-append, IsWordOf-take, IsWordOf-replicate, IsWordOf-reverse, IsWordOf-zeros}
use Rattle.word_orders.proofs.Rules.{makes_xor, MakesWord-then}
use Rattle.word_orders.proofs.Choices.{makes_bitwise, makes_choose}
use Rattle.word_orders.proofs.Sums.{makes_sub}
use Rattle.word_orders.proofs.Comparisons.{makes_is_zero, makes_abs, makes_negated_where}

record MakesStep (before : Netlist) (made : MadeStep) : Type 0 where
  extends : IsExtensionOf before made.net
  ordered : IsOrdered made.net
  goes : IsLiteralOf made.net made.goes
  rest : IsWordOf made.net made.rest

makes_divide_step : (x : Lit) (rest b : List Lit) (n : Netlist) → IsOrdered n → IsLiteralOf n x → IsWordOf n rest → IsWordOf n b → MakesStep n (divide_step_of x rest b n)
unfolding divide_step_of
makes_divide_step x rest b n h hx hr hb =
    let wide = x ∷ rest in
    let divisor = b ++ false_lit ∷ [] in
    let d = sub_of wide divisor n in
    let low = take (length b) d.word in
    let same = take (length b) wide in
    let m = choose_of d.carry low same d.net in
    let hw = IsWordOf-cons n x rest hx hr in
    let hd = makes_sub wide divisor n h hw (IsWordOf-append n b (false_lit ∷ []) hb (IsWordOf-cons n false_lit [] (IsLiteralOf-false n h) (IsWordOf-nil n))) in
    let hm = makes_choose d.carry low same d.net hd.ordered hd.carry (IsWordOf-take d.net (length b) d.word hd.word) (IsWordOf-take d.net (length b) wide (IsWordOf-later n d.net wide hd.extends hw)) in
    record {
      extends = extends_then n d.net m.net hd.extends hm.extends;
      ordered = hm.ordered;
      goes = IsLiteralOf-later d.net m.net d.carry hm.extends hd.carry;
      rest = hm.word;
    }

record MakesRatio (before : Netlist) (made : MadeRatio) : Type 0 where
  extends : IsExtensionOf before made.net
  ordered : IsOrdered made.net
  quotient : IsWordOf made.net made.quotient
  rest : IsWordOf made.net made.rest

makes_divide_from : (xs b rest quotient : List Lit) (n : Netlist) → IsOrdered n → IsWordOf n xs → IsWordOf n b → IsWordOf n rest → IsWordOf n quotient → MakesRatio n (divide_from xs b rest quotient n)
makes_divide_from [] b rest quotient n h hx hb hr hq = record { extends = extends_self n; ordered = h; quotient = hq; rest = hr }
makes_divide_from (x ∷ xs) b rest quotient n h hx hb hr hq =
    let s = divide_step_of x rest b n in
    let r = divide_from xs b s.rest (s.goes ∷ quotient) s.net in
    let hs = makes_divide_step x rest b n h (IsLiteralOf-head n x xs hx) hr hb in
    let hd = makes_divide_from xs b s.rest (s.goes ∷ quotient) s.net hs.ordered (IsWordOf-later n s.net xs hs.extends (IsWordOf-tail n x xs hx)) (IsWordOf-later n s.net b hs.extends hb) hs.rest (IsWordOf-cons s.net s.goes quotient hs.goes (IsWordOf-later n s.net quotient hs.extends hq)) in
    record {
      extends = extends_then n s.net r.net hs.extends hd.extends;
      ordered = hd.ordered;
      quotient = hd.quotient;
      rest = hd.rest;
    }

makes_divide : (a b : List Lit) (n : Netlist) → IsOrdered n → IsWordOf n a → IsWordOf n b → MakesRatio n (divide_of a b n)
makes_divide a b n h ha hb = makes_divide_from (reverse a) b (zeros (length b)) [] n h (IsWordOf-reverse n a ha) hb (IsWordOf-zeros n (length b) h) (IsWordOf-nil n)

makes_part : (p : Part) (n : Netlist) (r : MadeRatio) → MakesRatio n r → MakesWord n (part_of p r)
makes_part Quotient n r h = record { extends = h.extends; ordered = h.ordered; word = h.quotient }
makes_part Remainder n r h = record { extends = h.extends; ordered = h.ordered; word = h.rest }

makes_signed_part : (p : Part) (a b : Lit) (n : Netlist) (r : MadeWord) → MakesWord n r → IsLiteralOf n a → IsLiteralOf n b → MakesWord n (signed_part_of p a b r)
unfolding signed_part_of
makes_signed_part Quotient a b n r h ha hb =
    let s = xor_of a b r.net in
    let hs = makes_xor a b r.net h.ordered (IsLiteralOf-later n r.net a h.extends ha) (IsLiteralOf-later n r.net b h.extends hb) in
    MakesWord-then n s.net (negated_where s.lit r.word s.net) (extends_then n r.net s.net h.extends hs.extends)
    (makes_negated_where s.lit r.word s.net hs.ordered hs.literal (IsWordOf-later r.net s.net r.word hs.extends h.word))
makes_signed_part Remainder a b n r h ha hb =
    MakesWord-then n r.net (negated_where a r.word r.net) h.extends (makes_negated_where a r.word r.net h.ordered (IsLiteralOf-later n r.net a h.extends ha) h.word)

makes_ratio : (p : Part) (s : Bool) (a b : List Lit) (n : Netlist) → IsOrdered n → IsWordOf n a → IsWordOf n b → MakesWord n (ratio_of p s a b n)
unfolding ratio_of
makes_ratio p false a b n h ha hb = makes_part p n (divide_of a b n) (makes_divide a b n h ha hb)
makes_ratio p true a b n h ha hb =
    let dividend = abs_of true a n in
    let divisor = abs_of true b dividend.net in
    let hx = makes_abs true a n h ha in
    let hy = makes_abs true b dividend.net hx.ordered (IsWordOf-later n dividend.net b hx.extends hb) in
    let more = extends_then n dividend.net divisor.net hx.extends hy.extends in
    let part = part_of p (divide_of dividend.word divisor.word divisor.net) in
    let hd = makes_part p divisor.net (divide_of dividend.word divisor.word divisor.net) (makes_divide dividend.word divisor.word divisor.net hy.ordered (IsWordOf-later dividend.net divisor.net dividend.word hy.extends hx.word) hy.word) in
    makes_signed_part p (top_of a) (top_of b) n part (MakesWord-then n divisor.net part more hd) (IsLiteralOf-top n a h ha) (IsLiteralOf-top n b h hb)

makes_masked : (b : List Lit) (n : Netlist) (r : MadeWord) → MakesWord n r → IsWordOf n b → MakesWord n (masked_of b r)
unfolding masked_of
makes_masked b n r h hb =
    let z = is_zero_of b r.net in
    let mask = replicate (length r.word) (negation z.lit) in
    let hz = makes_is_zero b r.net h.ordered (IsWordOf-later n r.net b h.extends hb) in
    MakesWord-then n z.net (bitwise_of And mask r.word z.net) (extends_then n r.net z.net h.extends hz.extends)
    (makes_bitwise And mask r.word z.net hz.ordered (IsWordOf-replicate z.net (length r.word) (negation z.lit) (IsLiteralOf-negation z.net z.lit hz.literal)) (IsWordOf-later r.net z.net r.word hz.extends h.word))

pub makes_division : (p : Part) (s : Bool) (a b : List Lit) (n : Netlist) → IsOrdered n → IsWordOf n a → IsWordOf n b → MakesWord n (division_of p s a b n)
unfolding division_of
makes_division p s a b n h ha hb = makes_masked b n (ratio_of p s a b n) (makes_ratio p s a b n h ha hb) hb
