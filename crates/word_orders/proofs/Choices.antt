-- Operations bit by bit: AND, OR, XOR and MUX of words, and the OR of all bits.
use Rattle.std.proofs.Common.{List, [], ◌∷◌}
use Rattle.clause_core.specs.declared.literal.Lit.{Lit}
use Rattle.gates.specs.Literals.{false_lit}
use Rattle.gates.specs.Netlists.{Netlist, Made}
use Rattle.gates.specs.Order.{IsOrdered, IsLiteralOf}
use Rattle.gates.specs.Rules.{or_of, mux_of}
use Rattle.gates.proofs.Growth.{extends_then}
use Rattle.word_circuits.specs.declared.bits.BitOperator.{BitOperator}
use Rattle.word_circuits.specs.declared.bits.BitOperator.TheVariants.{And, Or, Xor}
use Rattle.word_circuits.specs.Words.{MadeWord, bit_of, bitwise_of}
use Rattle.word_circuits.specs.Choices.{choose_of, sel_of}
use Rattle.word_circuits.specs.Conversions.{any_from, any_of}
use Rattle.word_orders.specs.Orders.{IsWordOf, MakesLiteral, MakesWord}
use Rattle.word_orders.proofs.Literals.{IsLiteralOf-later, IsLiteralOf-false, IsLiteralOf-head, IsWordOf-later, IsWordOf-nil, IsWordOf-cons, IsWordOf-tail}
use Rattle.word_orders.proofs.Rules.{makes_and, makes_or, makes_xor, makes_mux, makes_ready, makes_ready_word, MakesLiteral-then}

pub makes_bit : (o : BitOperator) (a b : Lit) (n : Netlist) → IsOrdered n → IsLiteralOf n a → IsLiteralOf n b → MakesLiteral n (bit_of o a b n)
makes_bit And a b n h ha hb = makes_and a b n h ha hb
makes_bit Or a b n h ha hb = makes_or a b n h ha hb
makes_bit Xor a b n h ha hb = makes_xor a b n h ha hb

-- a bit, and the bits above it
makes_cons : (n : Netlist) (x : Made) (r : MadeWord) → MakesLiteral n x → MakesWord x.net r → MakesWord n (record { word = x.lit ∷ r.word; net = r.net })
makes_cons n x r hx hr = record {
  extends = extends_then n x.net r.net hx.extends hr.extends;
  ordered = hr.ordered;
  word = IsWordOf-cons r.net x.lit r.word (IsLiteralOf-later x.net r.net x.lit hr.extends hx.literal) hr.word;
}

pub makes_bitwise : (o : BitOperator) (a b : List Lit) (n : Netlist) → IsOrdered n → IsWordOf n a → IsWordOf n b → MakesWord n (bitwise_of o a b n)
makes_bitwise o [] b n h ha hb = makes_ready_word [] n h (IsWordOf-nil n)
makes_bitwise o (a ∷ as') [] n h ha hb = makes_ready_word [] n h (IsWordOf-nil n)
makes_bitwise o (a ∷ as') (b ∷ bs) n h ha hb =
    let x = bit_of o a b n in
    let hx = makes_bit o a b n h (IsLiteralOf-head n a as' ha) (IsLiteralOf-head n b bs hb) in
    makes_cons n x (bitwise_of o as' bs x.net) hx
    (makes_bitwise o as' bs x.net hx.ordered (IsWordOf-later n x.net as' hx.extends (IsWordOf-tail n a as' ha)) (IsWordOf-later n x.net bs hx.extends (IsWordOf-tail n b bs hb)))

pub makes_choose : (c : Lit) (a b : List Lit) (n : Netlist) → IsOrdered n → IsLiteralOf n c → IsWordOf n a → IsWordOf n b → MakesWord n (choose_of c a b n)
makes_choose c [] b n h hc ha hb = makes_ready_word [] n h (IsWordOf-nil n)
makes_choose c (a ∷ as') [] n h hc ha hb = makes_ready_word [] n h (IsWordOf-nil n)
makes_choose c (a ∷ as') (b ∷ bs) n h hc ha hb =
    let x = mux_of c a b n in
    let hx = makes_mux c a b n h hc (IsLiteralOf-head n a as' ha) (IsLiteralOf-head n b bs hb) in
    makes_cons n x (choose_of c as' bs x.net) hx
    (makes_choose c as' bs x.net hx.ordered (IsLiteralOf-later n x.net c hx.extends hc) (IsWordOf-later n x.net as' hx.extends (IsWordOf-tail n a as' ha)) (IsWordOf-later n x.net bs hx.extends (IsWordOf-tail n b bs hb)))

pub makes_sel : (g : Lit) (a b : List Lit) (n : Netlist) → IsOrdered n → IsLiteralOf n g → IsWordOf n a → IsWordOf n b → MakesWord n (sel_of g a b n)
makes_sel g a b n h hg ha hb = makes_choose g b a n h hg hb ha

makes_any_from : (r : Lit) (a : List Lit) (n : Netlist) → IsOrdered n → IsLiteralOf n r → IsWordOf n a → MakesLiteral n (any_from r a n)
makes_any_from r [] n h hr ha = makes_ready r n h hr
makes_any_from r (a ∷ as') n h hr ha =
    let x = or_of r a n in
    let hx = makes_or r a n h hr (IsLiteralOf-head n a as' ha) in
    MakesLiteral-then n x.net (any_from x.lit as' x.net) hx.extends
    (makes_any_from x.lit as' x.net hx.ordered hx.literal (IsWordOf-later n x.net as' hx.extends (IsWordOf-tail n a as' ha)))

pub makes_any : (a : List Lit) (n : Netlist) → IsOrdered n → IsWordOf n a → MakesLiteral n (any_of a n)
makes_any a n h ha = makes_any_from false_lit a n h (IsLiteralOf-false n h) ha
