-- What each node makes of its operands' words.
use Rattle.std.specs.Prelude.{ℕ, Bool, List, [], ◌∷◌}
use Rattle.clause_core.specs.declared.literal.Lit.{Lit}
use Rattle.plc_types.specs.declared.elementary.Elementary.{Elementary}
use Rattle.plc_types.specs.declared.elementary.Elementary.TheVariants as types
use Rattle.plc_types.specs.declared.function.Shift.{Shift}
use Rattle.plc_types.specs.declared.function.Shift.TheVariants as shifts
use Rattle.plc_types.specs.declared.operator.Operator.{Operator}
use Rattle.plc_types.specs.declared.operator.Operator.TheVariants as ops
use Rattle.plc_types.specs.declared.operator.UnaryOperator.{UnaryOperator}
use Rattle.plc_types.specs.declared.operator.UnaryOperator.TheVariants as signs
use Rattle.plc_types.specs.Types.{width_of, is_signed}
use Rattle.gates.specs.Literals.{false_lit}
use Rattle.gates.specs.Netlists.{Netlist, Made}
use Rattle.word_circuits.specs.declared.bits.BitOperator.TheVariants as bits
use Rattle.word_circuits.specs.declared.comparisons.Comparison.TheVariants as comparisons
use Rattle.word_circuits.specs.declared.divide.Part.TheVariants as parts
use Rattle.word_circuits.specs.Words.{MadeWord, ready, not_word, bitwise_of}
use Rattle.word_circuits.specs.Sums.{MadeSum, add_of, sub_of, neg_of}
use Rattle.word_circuits.specs.Products.{mul_of}
use Rattle.word_circuits.specs.Divisions.{division_of}
use Rattle.word_circuits.specs.Comparisons.{comparison_of}
use Rattle.word_circuits.specs.Shifts.{shl_of, shr_of, rol_of, ror_of}
use Rattle.word_circuits.specs.Conversions.{resized, any_of}

-- a literal as a word of one bit
abbrev pub one_bit : Made → MadeWord
one_bit m = record { word = m.lit ∷ []; net = m.net }

-- a sum without its last carry
abbrev pub sum_alone : MadeSum → MadeWord
sum_alone m = record { word = m.word; net = m.net }

-- a unary operator
abbrev pub unary_of : UnaryOperator → List Lit → Netlist → MadeWord
unary_of signs.Minus a n = sum_alone (neg_of a n)
unary_of signs.Not a n = ready (not_word a) n

-- a binary operator, on words of a signed or an unsigned type
abbrev pub binary_of : Operator → Bool → List Lit → List Lit → Netlist → MadeWord
binary_of ops.Or signed a b n = bitwise_of bits.Or a b n
binary_of ops.Xor signed a b n = bitwise_of bits.Xor a b n
binary_of ops.And signed a b n = bitwise_of bits.And a b n
binary_of ops.Equal signed a b n = one_bit (comparison_of comparisons.Equal signed a b n)
binary_of ops.NotEqual signed a b n = one_bit (comparison_of comparisons.NotEqual signed a b n)
binary_of ops.Less signed a b n = one_bit (comparison_of comparisons.Less signed a b n)
binary_of ops.Greater signed a b n = one_bit (comparison_of comparisons.Greater signed a b n)
binary_of ops.LessEqual signed a b n = one_bit (comparison_of comparisons.LessOrEqual signed a b n)
binary_of ops.GreaterEqual signed a b n = one_bit (comparison_of comparisons.GreaterOrEqual signed a b n)
binary_of ops.Plus signed a b n = sum_alone (add_of a b false_lit n)
binary_of ops.Minus signed a b n = sum_alone (sub_of a b n)
binary_of ops.Times signed a b n = mul_of a b n
binary_of ops.Divide signed a b n = division_of parts.Quotient signed a b n
binary_of ops.Mod signed a b n = division_of parts.Remainder signed a b n

-- A conversion from a type to another. To BOOL it is the OR of all bits, and else the word is cut, or extended by the source's sign.
abbrev pub conversion_of : Elementary → Elementary → List Lit → Netlist → MadeWord
conversion_of from types.Bool a n = one_bit (any_of a n)
conversion_of from to a n = ready (resized (is_signed from) (width_of to) a) n

-- a shift or a rotation
abbrev pub shift_of : Shift → ℕ → List Lit → List Lit
shift_of shifts.Left places a = shl_of places a
shift_of shifts.Right places a = shr_of places a
shift_of shifts.RotateLeft places a = rol_of places a
shift_of shifts.RotateRight places a = ror_of places a
