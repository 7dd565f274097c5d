-- Division, one bit of the quotient after the other, from the top down.
use Rattle.std.specs.Prelude.{ℕ, Bool, true, false, List, [], ◌∷◌, ◌++◌, length, take, reverse, replicate}
use Rattle.clause_core.specs.declared.literal.Lit.{Lit}
use Rattle.clause_core.specs.Values.{negation}
use Rattle.gates.specs.Literals.{false_lit}
use Rattle.gates.specs.Netlists.{Netlist}
use Rattle.gates.specs.Rules.{xor_of}
use Rattle.word_circuits.specs.declared.bits.BitOperator.TheVariants.{And}
use Rattle.word_circuits.specs.declared.divide.Part.{Part}
use Rattle.word_circuits.specs.declared.divide.Part.TheVariants.{Quotient, Remainder}
use Rattle.word_circuits.specs.Words.{MadeWord, ready, zeros, top_of, bitwise_of}
use Rattle.word_circuits.specs.Sums.{sub_of}
use Rattle.word_circuits.specs.Comparisons.{is_zero_of}
use Rattle.word_circuits.specs.Choices.{choose_of, abs_of, negated_where}

-- a bit of the quotient, and what is left
pub record MadeStep : Type 0 where
  pub goes : Lit
  pub rest : List Lit
  pub net : Netlist

-- whether b goes into the rest with the bit x below it, and what is left
unfoldable pub divide_step_of : Lit → List Lit → List Lit → Netlist → MadeStep
divide_step_of x rest b n =
    let wide = x ∷ rest in
    let d = sub_of wide (b ++ false_lit ∷ []) n in
    let m = choose_of d.carry (take (length b) d.word) (take (length b) wide) d.net in
    record { goes = d.carry; rest = m.word; net = m.net }

pub record MadeRatio : Type 0 where
  pub quotient : List Lit
  pub rest : List Lit
  pub net : Netlist

-- the bits of the dividend from the top down, b, the rest so far, the quotient so far
abbrev pub divide_from : List Lit → List Lit → List Lit → List Lit → Netlist → MadeRatio
divide_from [] b rest quotient n = record { quotient = quotient; rest = rest; net = n }
divide_from (x ∷ xs) b rest quotient n =
    let s = divide_step_of x rest b n in
    divide_from xs b s.rest (s.goes ∷ quotient) s.net

abbrev pub divide_of : List Lit → List Lit → Netlist → MadeRatio
divide_of a b n = divide_from (reverse a) b (zeros (length b)) [] n

-- the part of a division of unsigned words
abbrev pub part_of : Part → MadeRatio → MadeWord
part_of Quotient r = record { word = r.quotient; net = r.net }
part_of Remainder r = record { word = r.rest; net = r.net }

-- the quotient of signed words is negative where one of them is, the remainder where the dividend is
unfoldable pub signed_part_of : Part → Lit → Lit → MadeWord → MadeWord
signed_part_of Quotient a b r =
    let s = xor_of a b r.net in
    negated_where s.lit r.word s.net
signed_part_of Remainder a b r = negated_where a r.word r.net

-- a division without its sign, then the sign
unfoldable pub ratio_of : Part → Bool → List Lit → List Lit → Netlist → MadeWord
ratio_of part false a b n = part_of part (divide_of a b n)
ratio_of part true a b n =
    let dividend = abs_of true a n in
    let divisor = abs_of true b dividend.net in
    signed_part_of part (top_of a) (top_of b) (part_of part (divide_of dividend.word divisor.word divisor.net))

-- zero where the divisor is
unfoldable pub masked_of : List Lit → MadeWord → MadeWord
masked_of b r =
    let z = is_zero_of b r.net in
    bitwise_of And (replicate (length r.word) (negation z.lit)) r.word z.net

-- the quotient or the remainder, and zero where the divisor is zero
unfoldable pub division_of : Part → Bool → List Lit → List Lit → Netlist → MadeWord
division_of part signed a b n = masked_of b (ratio_of part signed a b n)
