-- Sums, differences and products of words.
use Rattle.std.proofs.Common.{ℕ, ◌+◌, ◌-◌, List, [], ◌∷◌, length, take, replicate}
use Rattle.clause_core.specs.declared.literal.Lit.{Lit}
use Rattle.gates.specs.Literals.{true_lit, false_lit}
use Rattle.gates.specs.Netlists.{Netlist, IsExtensionOf}
use Rattle.gates.specs.Order.{IsOrdered, IsLiteralOf}
use Rattle.gates.specs.Rules.{xor_of, mux_of}
use Rattle.gates.proofs.Growth.{extends_self, extends_then}
use Rattle.word_circuits.specs.declared.bits.BitOperator.TheVariants.{And}
use Rattle.word_circuits.specs.Words.{zeros, not_word, bitwise_of}
use Rattle.word_circuits.specs.Sums.{MadeBit, full_adder_of, add_of, sub_of, neg_of}
use Rattle.word_circuits.specs.Products.{row_of, mul_from, mul_of}
use Rattle.word_orders.specs.Orders.{IsWordOf, MakesWord, MakesSum}
use Rattle.word_orders.proofs.Literals.{IsLiteralOf-later, IsLiteralOf-true, IsLiteralOf-false, IsLiteralOf-head, IsWordOf-later, IsWordOf-nil, IsWordOf-cons, IsWordOf-tail, IsWordOf-append, IsWordOf-take, IsWordOf-replicate, IsWordOf-zeros, IsWordOf-not}
use Rattle.word_orders.proofs.Rules.{makes_xor, makes_mux, makes_ready_word, MakesWord-then}
use Rattle.word_orders.proofs.Choices.{makes_bitwise}

record MakesBit (before : Netlist) (made : MadeBit) : Type 0 where
  extends : IsExtensionOf before made.net
  ordered : IsOrdered made.net
  sum : IsLiteralOf made.net made.sum
  carry : IsLiteralOf made.net made.carry

makes_full_adder : (a b c : Lit) (n : Netlist) → IsOrdered n → IsLiteralOf n a → IsLiteralOf n b → IsLiteralOf n c → MakesBit n (full_adder_of a b c n)
unfolding full_adder_of
makes_full_adder a b c n h ha hb hc =
    let x = xor_of a b n in
    let s = xor_of x.lit c x.net in
    let k = mux_of x.lit c a s.net in
    let hx = makes_xor a b n h ha hb in
    let hs = makes_xor x.lit c x.net hx.ordered hx.literal (IsLiteralOf-later n x.net c hx.extends hc) in
    let more = extends_then n x.net s.net hx.extends hs.extends in
    let hk = makes_mux x.lit c a s.net hs.ordered (IsLiteralOf-later x.net s.net x.lit hs.extends hx.literal) (IsLiteralOf-later n s.net c more hc) (IsLiteralOf-later n s.net a more ha) in
    record {
      extends = extends_then n s.net k.net more hk.extends;
      ordered = hk.ordered;
      sum = IsLiteralOf-later s.net k.net s.lit hk.extends hs.literal;
      carry = hk.literal;
    }

pub makes_add : (a b : List Lit) (c : Lit) (n : Netlist) → IsOrdered n → IsWordOf n a → IsWordOf n b → IsLiteralOf n c → MakesSum n (add_of a b c n)
makes_add [] b c n h ha hb hc = record { extends = extends_self n; ordered = h; word = IsWordOf-nil n; carry = hc }
makes_add (a ∷ as') [] c n h ha hb hc = record { extends = extends_self n; ordered = h; word = IsWordOf-nil n; carry = hc }
makes_add (a ∷ as') (b ∷ bs) c n h ha hb hc =
    let f = full_adder_of a b c n in
    let r = add_of as' bs f.carry f.net in
    let hf = makes_full_adder a b c n h (IsLiteralOf-head n a as' ha) (IsLiteralOf-head n b bs hb) hc in
    let hr = makes_add as' bs f.carry f.net hf.ordered (IsWordOf-later n f.net as' hf.extends (IsWordOf-tail n a as' ha)) (IsWordOf-later n f.net bs hf.extends (IsWordOf-tail n b bs hb)) hf.carry in
    record {
      extends = extends_then n f.net r.net hf.extends hr.extends;
      ordered = hr.ordered;
      word = IsWordOf-cons r.net f.sum r.word (IsLiteralOf-later f.net r.net f.sum hr.extends hf.sum) hr.word;
      carry = hr.carry;
    }

pub makes_sub : (a b : List Lit) (n : Netlist) → IsOrdered n → IsWordOf n a → IsWordOf n b → MakesSum n (sub_of a b n)
makes_sub a b n h ha hb = makes_add a (not_word b) true_lit n h ha (IsWordOf-not n b hb) (IsLiteralOf-true n h)

pub makes_neg : (a : List Lit) (n : Netlist) → IsOrdered n → IsWordOf n a → MakesSum n (neg_of a n)
makes_neg a n h ha = makes_sub (zeros (length a)) a n h (IsWordOf-zeros n (length a) h) ha

makes_row : (a : List Lit) (i : ℕ) (b : Lit) (n : Netlist) → IsOrdered n → IsWordOf n a → IsLiteralOf n b → MakesWord n (row_of a i b n)
makes_row a i b n h ha hb =
    let low = take (length a - i) a in
    let copies = replicate (length low) b in
    let r = bitwise_of And low copies n in
    let hr = makes_bitwise And low copies n h (IsWordOf-take n (length a - i) a ha) (IsWordOf-replicate n (length low) b hb) in
    record { extends = hr.extends; ordered = hr.ordered; word = IsWordOf-append r.net (zeros i) r.word (IsWordOf-zeros r.net i hr.ordered) hr.word }

makes_mul_from : (a : List Lit) (i : ℕ) (b sum : List Lit) (n : Netlist) → IsOrdered n → IsWordOf n a → IsWordOf n b → IsWordOf n sum → MakesWord n (mul_from a i b sum n)
makes_mul_from a i [] sum n h ha hb hs = makes_ready_word sum n h hs
makes_mul_from a i (b ∷ bs) sum n h ha hb hs =
    let row = row_of a i b n in
    let s = add_of sum row.word false_lit row.net in
    let hr = makes_row a i b n h ha (IsLiteralOf-head n b bs hb) in
    let ht = makes_add sum row.word false_lit row.net hr.ordered (IsWordOf-later n row.net sum hr.extends hs) hr.word (IsLiteralOf-false row.net hr.ordered) in
    let more = extends_then n row.net s.net hr.extends ht.extends in
    MakesWord-then n s.net (mul_from a (i + 1) bs s.word s.net) more
    (makes_mul_from a (i + 1) bs s.word s.net ht.ordered (IsWordOf-later n s.net a more ha) (IsWordOf-later n s.net bs more (IsWordOf-tail n b bs hb)) ht.word)

pub makes_mul : (a b : List Lit) (n : Netlist) → IsOrdered n → IsWordOf n a → IsWordOf n b → MakesWord n (mul_of a b n)
makes_mul a b n h ha hb = makes_mul_from a 0 b (zeros (length a)) n h ha hb (IsWordOf-zeros n (length a) h)
