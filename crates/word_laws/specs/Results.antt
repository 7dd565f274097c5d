-- What the operations give on whole numbers.
use Rattle.std.specs.Prelude.{ℕ, ◌+◌, ◌*◌, ◌-◌, ◌^◌, ◌/◌, Bool, not, ℤ, pos, int_lt, int_le, bit_and, bit_or, bit_xor, if◌then◌else◌, Option, Some, None}
use Rattle.std.specs.Ordering.{int_eq}
use Rattle.num_core.specs.Division.{quot, rem}
use Rattle.word_circuits.specs.declared.bits.BitOperator.{BitOperator}
use Rattle.word_circuits.specs.declared.bits.BitOperator.TheVariants as bits
use Rattle.word_circuits.specs.declared.comparisons.Comparison.{Comparison}
use Rattle.word_circuits.specs.declared.comparisons.Comparison.TheVariants as comparisons
use Rattle.word_circuits.specs.declared.divide.Part.{Part}
use Rattle.word_circuits.specs.declared.divide.Part.TheVariants as parts

abbrev pub compared : Comparison → ℤ → ℤ → Bool
compared comparisons.Equal a b = int_eq a b
compared comparisons.NotEqual a b = not (int_eq a b)
compared comparisons.Less a b = int_lt a b
compared comparisons.Greater a b = int_lt b a
compared comparisons.LessOrEqual a b = int_le a b
compared comparisons.GreaterOrEqual a b = int_le b a

-- what a division by zero gives
abbrev pub or_zero : Option ℤ → ℤ
or_zero None = pos 0
or_zero (Some v) = v

-- the part of a division that truncates
abbrev pub divided : Part → ℤ → ℤ → ℤ
divided parts.Quotient a b = or_zero (quot a b)
divided parts.Remainder a b = or_zero (rem a b)

abbrev pub lesser : ℤ → ℤ → ℤ
lesser a b = if int_lt b a then b else a

abbrev pub greater : ℤ → ℤ → ℤ
greater a b = if int_lt a b then b else a

abbrev pub combined : BitOperator → ℕ → ℕ → ℕ
combined bits.And a b = bit_and a b
combined bits.Or a b = bit_or a b
combined bits.Xor a b = bit_xor a b

-- a rotation to the left by k places, of width bits: those that leave come back at the other end
abbrev pub rotated : ℕ → ℕ → ℕ → ℕ
rotated width k a = a * 2 ^ k + a / 2 ^ (width - k)
