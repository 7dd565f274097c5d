-- Multiplication by the sum of rows.
use Rattle.std.specs.Prelude.{ℕ, ◌+◌, ◌-◌, List, [], ◌∷◌, ◌++◌, length, take, replicate}
use Rattle.clause_core.specs.declared.literal.Lit.{Lit}
use Rattle.gates.specs.Literals.{false_lit}
use Rattle.gates.specs.Netlists.{Netlist}
use Rattle.word_circuits.specs.declared.bits.BitOperator.TheVariants.{And}
use Rattle.word_circuits.specs.Words.{MadeWord, ready, zeros, bitwise_of}
use Rattle.word_circuits.specs.Sums.{add_of}

-- bit j of row i is FALSE below i, else AND(a[j - i], b[i])
abbrev pub row_of : List Lit → ℕ → Lit → Netlist → MadeWord
row_of a i b n =
    let low = take (length a - i) a in
    let r = bitwise_of And low (replicate (length low) b) n in
    record { word = zeros i ++ r.word; net = r.net }

-- the sum so far, and the rows for the bits of b from bit i on
abbrev pub mul_from : List Lit → ℕ → List Lit → List Lit → Netlist → MadeWord
mul_from a i [] sum n = ready sum n
mul_from a i (b ∷ bs) sum n =
    let row = row_of a i b n in
    let s = add_of sum row.word false_lit row.net in
    mul_from a (i + 1) bs s.word s.net

abbrev pub mul_of : List Lit → List Lit → Netlist → MadeWord
mul_of a b n = mul_from a 0 b (zeros (length a)) n
