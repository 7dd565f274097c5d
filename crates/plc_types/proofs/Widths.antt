-- How wide the elementary types are, and which have a sign. The types are gone through here and nowhere else: what holds of a type follows
-- from its width and sign.
use Rattle.std.proofs.Common.{◌≡◌, ◌^◌, ◌<◌, ◌≤◌, true, not, refl, arith}
use Rattle.std.proofs.Math.IntN.{pos, neg_ℤ}
use Rattle.std.specs.Prelude.{◌<ℤ◌, ◌≤ℤ◌}
use Rattle.std.proofs.lemmas.Bool.{false≢true}
use Rattle.num_core.proofs.Ranges.{lowest_bound, highest_bound}
use Rattle.plc_types.specs.declared.elementary.Elementary.{Elementary}
use Rattle.plc_types.specs.declared.elementary.Elementary.TheVariants as types
use Rattle.plc_types.specs.Types.{width_of, is_signed, is_integer, least_of, greatest_of}

-- a value has a bit at least
pub some_bits : (t : Elementary) → 0 < width_of t
some_bits types.Bool = omega arith
some_bits types.Sint = omega arith
some_bits types.Int = omega arith
some_bits types.Dint = omega arith
some_bits types.Lint = omega arith
some_bits types.Usint = omega arith
some_bits types.Uint = omega arith
some_bits types.Udint = omega arith
some_bits types.Ulint = omega arith
some_bits types.Byte = omega arith
some_bits types.Word = omega arith
some_bits types.Dword = omega arith
some_bits types.Lword = omega arith

-- and at most 64
pub at_most_64_bits : (t : Elementary) → width_of t ≤ 64
at_most_64_bits types.Bool = omega arith
at_most_64_bits types.Sint = omega arith
at_most_64_bits types.Int = omega arith
at_most_64_bits types.Dint = omega arith
at_most_64_bits types.Lint = omega arith
at_most_64_bits types.Usint = omega arith
at_most_64_bits types.Uint = omega arith
at_most_64_bits types.Udint = omega arith
at_most_64_bits types.Ulint = omega arith
at_most_64_bits types.Byte = omega arith
at_most_64_bits types.Word = omega arith
at_most_64_bits types.Dword = omega arith
at_most_64_bits types.Lword = omega arith

-- BOOL and the bit strings have no sign
pub bits_unsigned : (t : Elementary) → not (is_integer t) ≡ true → not (is_signed t) ≡ true
bits_unsigned types.Bool h = refl
bits_unsigned types.Sint h = absurd (false≢true h)
bits_unsigned types.Int h = absurd (false≢true h)
bits_unsigned types.Dint h = absurd (false≢true h)
bits_unsigned types.Lint h = absurd (false≢true h)
bits_unsigned types.Usint h = refl
bits_unsigned types.Uint h = refl
bits_unsigned types.Udint h = refl
bits_unsigned types.Ulint h = refl
bits_unsigned types.Byte h = refl
bits_unsigned types.Word h = refl
bits_unsigned types.Dword h = refl
bits_unsigned types.Lword h = refl

-- ---- bounds of all types

pub least_bound : (t : Elementary) → neg_ℤ (pos (2 ^ 63)) ≤ℤ least_of t
least_bound t = lowest_bound (width_of t) 64 (is_signed t) (at_most_64_bits t)

pub greatest_bound : (t : Elementary) → greatest_of t <ℤ pos (2 ^ 64)
greatest_bound t = highest_bound (width_of t) 64 (is_signed t) (at_most_64_bits t)
