-- Words of literals, the bit of least worth first, and operations on each bit.
use Rattle.std.specs.Prelude.{ℕ, zero, suc, Bool, List, [], ◌∷◌, map, replicate, ℤ, pos, nat_eq, unsigned_abs, if◌then◌else◌}
use Rattle.std.specs.Int.{int_div_euclid, int_rem_euclid}
use Rattle.clause_core.specs.declared.literal.Lit.{Lit}
use Rattle.clause_core.specs.Values.{negation}
use Rattle.gates.specs.Literals.{true_lit, false_lit}
use Rattle.gates.specs.Netlists.{Netlist, Made}
use Rattle.gates.specs.Rules.{and_of, or_of, xor_of}
use Rattle.word_circuits.specs.declared.bits.BitOperator.{BitOperator}
use Rattle.word_circuits.specs.declared.bits.BitOperator.TheVariants.{And, Or, Xor}

-- a word, and the circuit after it was made
pub record MadeWord : Type 0 where
  pub word : List Lit
  pub net : Netlist

-- no gates: the word alone
abbrev pub ready : List Lit → Netlist → MadeWord
ready w n = record { word = w; net = n }

-- the number zero
abbrev pub zeros : ℕ → List Lit
zeros width = replicate width false_lit

-- the least significant bit of a whole number in two's complement
abbrev pub is_odd : ℤ → Bool
is_odd v = nat_eq (unsigned_abs (int_rem_euclid v (pos 2))) 1

abbrev pub low_bit : ℤ → Lit
low_bit v = if is_odd v then true_lit else false_lit

-- the bits of a whole number in two's complement, cut to a width
abbrev pub constant_of : ℕ → ℤ → List Lit
constant_of zero v = []
constant_of (suc width) v = low_bit v ∷ constant_of width (int_div_euclid v (pos 2))

-- the literal of greatest worth, FALSE where there is none
abbrev pub top_of : List Lit → Lit
top_of [] = false_lit
top_of (l ∷ []) = l
top_of (l ∷ m ∷ ls) = top_of (m ∷ ls)

-- NOT
abbrev pub not_word : List Lit → List Lit
not_word a = map negation a

-- AND, OR or XOR of two literals
abbrev pub bit_of : BitOperator → Lit → Lit → Netlist → Made
bit_of And a b n = and_of a b n
bit_of Or a b n = or_of a b n
bit_of Xor a b n = xor_of a b n

-- AND, OR or XOR, bit by bit
abbrev pub bitwise_of : BitOperator → List Lit → List Lit → Netlist → MadeWord
bitwise_of o [] bs n = ready [] n
bitwise_of o (a ∷ as') [] n = ready [] n
bitwise_of o (a ∷ as') (b ∷ bs) n =
    let x = bit_of o a b n in
    let r = bitwise_of o as' bs x.net in
    record { word = x.lit ∷ r.word; net = r.net }
