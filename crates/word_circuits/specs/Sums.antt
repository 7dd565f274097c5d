-- Addition and subtraction by full adders.
use Rattle.std.specs.Prelude.{ℕ, List, [], ◌∷◌, length, map}
use Rattle.clause_core.specs.declared.literal.Lit.{Lit}
use Rattle.clause_core.specs.Values.{negation}
use Rattle.gates.specs.Literals.{true_lit}
use Rattle.gates.specs.Netlists.{Netlist}
use Rattle.gates.specs.Rules.{xor_of, mux_of}
use Rattle.word_circuits.specs.Words.{not_word, zeros}

-- the sum bit and the carry of three bits
pub record MadeBit : Type 0 where
  pub sum : Lit
  pub carry : Lit
  pub net : Netlist

-- a sum with its last carry
pub record MadeSum : Type 0 where
  pub word : List Lit
  pub carry : Lit
  pub net : Netlist

-- x = XOR(a, b), the sum XOR(x, c), the carry MUX(x, c, a)
unfoldable pub full_adder_of : Lit → Lit → Lit → Netlist → MadeBit
full_adder_of a b c n =
    let x = xor_of a b n in
    let s = xor_of x.lit c x.net in
    let k = mux_of x.lit c a s.net in
    record { sum = s.lit; carry = k.lit; net = k.net }

-- from bit 0 up
abbrev pub add_of : List Lit → List Lit → Lit → Netlist → MadeSum
add_of [] bs c n = record { word = []; carry = c; net = n }
add_of (a ∷ as') [] c n = record { word = []; carry = c; net = n }
add_of (a ∷ as') (b ∷ bs) c n =
    let f = full_adder_of a b c n in
    let r = add_of as' bs f.carry f.net in
    record { word = f.sum ∷ r.word; carry = r.carry; net = r.net }

-- the last carry is set where nothing was borrowed
abbrev pub sub_of : List Lit → List Lit → Netlist → MadeSum
sub_of a b n = add_of a (not_word b) true_lit n

abbrev pub neg_of : List Lit → Netlist → MadeSum
neg_of a n = sub_of (zeros (length a)) a n
